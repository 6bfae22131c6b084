use Rattle.p1_normal.proofs.LevelLaws.{image_number_product}
use Rattle.p1_normal.proofs.Moves.{image_number-lt, symbol_at-image_number}
use Rattle.p1_normal.proofs.laws.number_laws.Goals as goal

pub returns : goal.returns
returns c = record {
  below = image_number-lt;
  symbol = symbol_at-image_number;
  product = image_number_product;
}

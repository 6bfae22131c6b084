use Rattle.p1_normal.proofs.Symbols.{image_coprime}
use Rattle.p1_normal.proofs.LevelLaws.{action_same, action_product}
use Rattle.p1_normal.proofs.laws.action_laws.Goals as goal

pub returns : goal.returns
returns c = record {
  points = image_coprime;
  same = action_same;
  product = action_product;
}

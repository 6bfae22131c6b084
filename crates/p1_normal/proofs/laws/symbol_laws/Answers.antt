use Rattle.p1_normal.proofs.LevelLaws.{symbols_before, symbol_coprime, symbol_own}
use Rattle.p1_normal.proofs.Numbers.{number_unique, IsNumber-number, number-symbol_at}
use Rattle.p1_normal.proofs.laws.symbol_laws.Goals as goal

pub returns : goal.returns
returns c = record {
  rising = symbols_before;
  one_place = number_unique;
  all = IsNumber-number;
  points = symbol_coprime;
  own = symbol_own;
  number = number-symbol_at;
}

use Rattle.p1_normal.proofs.SmallLevels.{symbols-one, symbols-four, symbols-five, symbols-eleven, symbols-twelve}
use Rattle.p1_normal.proofs.laws.small_levels.Goals as goal

pub returns : goal.returns
returns c = record {
  one = symbols-one;
  four = symbols-four;
  five = symbols-five;
  eleven = symbols-eleven;
  twelve = symbols-twelve;
}

use Rattle.p1_normal.proofs.Units.{IsGcd-gcd, IsUnit-mul}
use Rattle.p1_normal.proofs.LevelLaws.{bezout, IsUnit_iff}
use Rattle.p1_normal.proofs.laws.unit_laws.Goals as goal

pub returns : goal.returns
returns c = record {
  divisor = IsGcd-gcd;
  bezout = bezout;
  coprime = IsUnit_iff;
  product = IsUnit-mul;
}

use Rattle.p1_normal.proofs.SamePoints.{SamePoint_refl, SamePoint_sym, SamePoint_trans, common_divisor-same}
use Rattle.p1_normal.proofs.LevelLaws.{common_divisor-reduced}
use Rattle.p1_normal.proofs.laws.point_laws.Goals as goal

pub returns : goal.returns
returns c = record {
  reflexive = SamePoint_refl;
  symmetric = λ N p q. SamePoint_sym;
  transitive = λ N p q r. SamePoint_trans;
  divisor = λ N p q. common_divisor-same;
  integers = common_divisor-reduced;
}

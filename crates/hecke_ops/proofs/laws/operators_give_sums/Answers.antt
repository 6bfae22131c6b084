use Rattle.hecke_ops.proofs.Operators.{matrix_of_sum, coordinates_of_sum, hecke_matrix_once}
use Rattle.hecke_ops.proofs.Sums.{Congruent-hecke_sum}
use Rattle.hecke_ops.proofs.laws.operators_give_sums.Goals as goal

pub returns : goal.returns
returns c = record {
  vectors = matrix_of_sum;
  lists = coordinates_of_sum;
  congruence = λ N p L x y positive h. Congruent-hecke_sum positive h x y;
  one_matrix = hecke_matrix_once;
}

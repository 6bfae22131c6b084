use Rattle.hecke_ops.proofs.FirstFailing.{failing_once, failing_values, failing_or_keeps, failing_is_kept}
use Rattle.hecke_ops.proofs.FirstFailing.{Congruent-zero_coordinates, zero_coordinates}
use Rattle.hecke_ops.proofs.laws.first_failing_relation_is_one.Goals as goal

pub returns : goal.returns
returns c = record {
  number = λ N p L j k values others prime h g. failing_once prime h g;
  coords = λ N p L k values others prime h g. failing_values prime h g;
  none = λ N p L k values prime h g. failing_or_keeps prime h g;
  kept = λ N p L k values prime h. failing_is_kept prime h;
  zero = λ N p x positive h. Congruent-zero_coordinates N p positive x h;
  coordinates_of_zero = λ N p x positive h. zero_coordinates N p positive x h;
}

use Rattle.stable_subspaces.proofs.Fitting.{fitting_splits, fitting_once}
use Rattle.stable_subspaces.proofs.laws.fitting_parts_are_unique.Goals as goal

pub returns : goal.returns
returns c = record {
  splits = λ p d a rows w prime columns ends s h. fitting_splits prime d a rows columns ends s w h;
  once =
      λ p d a rows y z u v prime columns ends s hy hz hu hv e. fitting_once prime d a rows columns ends s y u z v hy hz hu hv e;
}

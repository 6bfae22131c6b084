use Rattle.std.proofs.Common.{◌≡◌, length, map, take}
use Rattle.dense_mat.specs.Subspace.{Subspace}
use Rattle.session_core.proofs.answers.splits.part_sizes.Given as goal

abbrev pub invariant-loop-part : goal.invariant-loop-part
invariant-loop-part l = l.sizes.items ≡ map (λ (part : Subspace). length part.rows) (take l.part-index l.parts)

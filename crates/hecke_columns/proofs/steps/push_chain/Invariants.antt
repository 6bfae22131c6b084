use Rattle.std.specs.Prelude.{unsigned_abs}
use Rattle.heilbronn_chains.specs.Chains.{degree}
use Rattle.hecke_columns.proofs.StepLists.{Stepping}
use Rattle.hecke_columns.proofs.steps.push_chain.Given as goal

-- the steps up to the last matrix are behind the list
abbrev pub invariant-loop-matrix : goal.invariant-loop-matrix
invariant-loop-matrix l = Stepping (degree l.fn.start) l.fn.start l.last l.fn.steps.items l.steps.items

abbrev pub decreases-loop-matrix : goal.decreases-loop-matrix
decreases-loop-matrix l = unsigned_abs l.last.c

use Rattle.std.proofs.Common.{◌≡◌}
use Rattle.heilbronn_sets.specs.Merel.{starts}
use Rattle.hecke_columns.proofs.StepLists.{PartStepped}
use Rattle.hecke_columns.proofs.steps.all_steps.Given as goal

-- the chains of the starts so far are walked
abbrev pub invariant-loop-start : goal.invariant-loop-start
invariant-loop-start l = record {
  starts : l.start-items ≡ starts l.n;
  part : PartStepped l.n l.start-index l.steps.items;
}

use Rattle.std.proofs.Common.{◌<◌, ℕ, List, get_or}
use Rattle.p1_normal.specs.declared.matrix.Matrix.{Matrix}
use Rattle.hecke_ops.specs.Operators.{AreColumns, SendsToZero}
use Rattle.hecke_ops.proofs.failing.first_failing.Given as goal

-- the kept relations so far are sent to 0
abbrev pub invariant-loop-k : goal.invariant-loop-k
invariant-loop-k l = (L : List Matrix) → AreColumns l.level l.field L l.columns
    → (q : ℕ) → q < l.k-index → SendsToZero l.level l.field L (get_or l.kept q 0)

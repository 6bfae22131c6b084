use Rattle.std.proofs.Common.{◌<◌, ℕ, [], get_or}
use Rattle.linear_algebra.specs.Dense.{dense, dense_rows}
use Rattle.linear_algebra.specs.Span.{InSpan}
use Rattle.splitting_cases.proofs.fitting.is_stable.Given as goal

-- the images before i are in the part
abbrev pub invariant-loop-i : goal.invariant-loop-i
invariant-loop-i l = record {
  inside : (j : ℕ) → j < l.i → InSpan (dense_rows l.field l.part.rows) (dense l.field (get_or l.rows j []));
}

use Rattle.std.proofs.Common.{◌≡◌, ◌<◌, ◌≤◌, ◌+◌, ◌*◌, ◌%◌, ℕ, get_or}
use Rattle.field_table.proofs.kernel.Kernel.axpy.Given as goal

-- the places below i are done, and the others are as they were
abbrev pub invariant-loop-i : goal.invariant-loop-i
invariant-loop-i g l = record {
  done : (k : ℕ) → k < l.i → get_or l.acc k 0 ≡ (get_or l.fn.acc k 0 + l.multiple.factor * get_or l.row k 0) % g.row.P;
  rest : (k : ℕ) → l.i ≤ k → get_or l.acc k 0 ≡ get_or l.fn.acc k 0;
}

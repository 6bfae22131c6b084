use Rattle.std.proofs.Common.{◌≡◌, ◌<◌, ◌≤◌, ◌+◌, ◌*◌, ℕ, get_or}
use Rattle.dense_mat.proofs.accumulation.add_products.Given as goal

-- the places below k are done, and the others are as they were
abbrev pub invariant-loop-k : goal.invariant-loop-k
invariant-loop-k l = record {
  done : (i : ℕ) → i < l.k → get_or l.sums i 0 ≡ get_or l.fn.sums i 0 + l.c * get_or l.row i 0;
  rest : (i : ℕ) → l.k ≤ i → get_or l.sums i 0 ≡ get_or l.fn.sums i 0;
}

use Rattle.std.proofs.Common.{◌≡◌, ◌<◌, ◌+◌, ℕ, [], length, get_or, drop}
use Rattle.dense_mat.proofs.null_space.rests_of.Given as goal

-- the rests of the rows before j are there
abbrev pub invariant-loop-j : goal.invariant-loop-j
invariant-loop-j l = record {
  many : length l.rests.items + l.start ≡ l.j;
  each : (i : ℕ) → i < length l.rests.items → get_or l.rests.items i [] ≡ drop l.width (get_or l.rows (l.start + i) []);
}

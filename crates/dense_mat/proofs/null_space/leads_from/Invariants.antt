use Rattle.std.proofs.Common.{◌≡◌, ◌<◌, ◌+◌, ◌-◌, ℕ, length, get_or}
use Rattle.dense_mat.proofs.null_space.leads_from.Given as goal

-- the leads before j are there
abbrev pub invariant-loop-j : goal.invariant-loop-j
invariant-loop-j l = record {
  many : length l.places.items + l.start ≡ l.j;
  each : (i : ℕ) → i < length l.places.items → get_or l.places.items i 0 ≡ get_or l.leads (l.start + i) 0 - l.width;
}

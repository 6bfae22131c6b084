use Rattle.std.proofs.Common.{◌≡◌, ◌<◌, ℕ, length, get_or}
use Rattle.dense_mat.proofs.basis.places_below.Given as goal

-- the places before k are there
abbrev pub invariant-loop-k : goal.invariant-loop-k
invariant-loop-k l = record {
  many : length l.places.items ≡ l.k;
  each : (i : ℕ) → i < length l.places.items → get_or l.places.items i 0 ≡ i;
}

use Rattle.std.proofs.Common.{◌≡◌, ◌<◌, ◌%◌, ℕ, length, get_or}
use Rattle.dense_mat.proofs.accumulation.residues_of.Given as goal

-- the residues before place k are there
abbrev pub invariant-loop-k : goal.invariant-loop-k
invariant-loop-k l = record {
  many : length l.list.items ≡ l.k;
  each : (i : ℕ) → i < l.k → get_or l.list.items i 0 ≡ get_or l.sums i 0 % l.characteristic;
}

use Rattle.std.proofs.Common.{◌≡◌, length, take}
use Rattle.linear_algebra.specs.Dense.{dense, dense_rows}
use Rattle.linear_algebra.specs.Echelon.{remainder}
use Rattle.dense_mat.specs.Accumulation.{HasRoom}
use Rattle.dense_mat.specs.Echelon.{lead}
use Rattle.dense_mat.proofs.elimination.take_away.Given as goal

-- the rows before j are taken away
abbrev pub invariant-loop-j : goal.invariant-loop-j
invariant-loop-j l = record {
  remainder : dense l.field l.sums ≡ remainder (take l.j (dense_rows l.field l.rows)) (lead l.leads) (dense l.field l.numbers);
  room : HasRoom l.j l.sums;
  length : length l.sums ≡ length l.numbers;
}

use Rattle.std.proofs.Common.{◌≡◌, take}
use Rattle.dense_mat.proofs.accumulation.sums_of.Given as goal

abbrev pub invariant-loop-number : goal.invariant-loop-number
invariant-loop-number l = l.sums.items ≡ take l.number-index l.numbers

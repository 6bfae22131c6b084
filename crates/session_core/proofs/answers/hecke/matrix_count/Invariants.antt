use Rattle.std.proofs.Common.{◌≡◌, take, length}
use Rattle.std.specs.List.{sum_by}
use Rattle.session_core.proofs.answers.hecke.matrix_count.Given as goal

abbrev pub invariant-loop-chain : goal.invariant-loop-chain
invariant-loop-chain l = l.count ≡ sum_by (λ ms. length ms) (take l.chain-index l.chains)

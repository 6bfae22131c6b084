use Rattle.std.proofs.Common.{◌≡◌, ltb, drop}
use Rattle.std.specs.List.{list_all}
use Rattle.reply_text.proofs.state_steps.is_polynomial.Given as goal

abbrev pub invariant-loop-x : goal.invariant-loop-x
invariant-loop-x l = list_all (λ x. ltb x l.p) (drop l.x-index l.coefficients) ≡ list_all (λ x. ltb x l.p) l.coefficients

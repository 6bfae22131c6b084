use Rattle.std.proofs.Common.{◌≡◌, ◌++◌, map, pos, drop}
use Rattle.reply_text.proofs.state_steps.integers.Given as goal

abbrev pub invariant-loop-x : goal.invariant-loop-x
invariant-loop-x l = l.list.items ++ map (λ x. pos x) (drop l.x-index l.values) ≡ map (λ x. pos x) l.values

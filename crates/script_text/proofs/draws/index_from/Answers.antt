use Rattle.std.proofs.Common.{◌≡◌, ◌+◌, ◌-◌, ◌∙◌, nat_eq, false, sym, arith, ne_eqb}
use Rattle.p1_normal.specs.Units.{gcd}
use Rattle.script_text.proofs.DrawLemmas.{coprime_from-no}
use Rattle.script_text.proofs.draws.index_from.Goals as goal

pub loop-n-preserved : goal.loop-n-preserved
loop-n-preserved c =
    let end = c.args.least + c.args.level + 1 in
    let none : nat_eq (gcd c.loop-n.n c.args.level) 1 ≡ false = ne_eqb _ _ (λ one. c.if-gcd-eq1.false (c.gcd.ensures ∙ one)) in
    sym (coprime_from-no c.args.level c.loop-n.n (end - c.loop-n.n) (end - (c.loop-n.n + 1)) (omega arith) none) ∙ c.loop-n.invariant

use Rattle.std.proofs.Common.{Contains, IsTrue, subst, sym}
use Rattle.splitting_cases.proofs.splittings.step.Goals as goal

pub refine-requires-clause-listed : goal.refine-requires-clause-listed
refine-requires-clause-listed c = λ k l e.
    let listed : IsTrue c.is_listed.result = c.is_listed.ensures.1 (subst (λ names. Contains names c.args.op) (sym c.ops.ensures) (k, l, e)) in
    absurd cc

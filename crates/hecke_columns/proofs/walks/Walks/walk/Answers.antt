use Rattle.hecke_columns.proofs.HeldLemmas.{steps_found}
use Rattle.hecke_columns.proofs.walks.Walks.walk.Goals as goal

pub returns-in-Some-Some-clause-number : goal.returns-in-Some-Some-clause-number
returns-in-Some-Some-clause-number c = steps_found c.args.n c.in-Some-Some.steps.now c.self.inside.steps.entries
    (let found = c.in-Some-Some.ensures.value in cc) c.self.invariant.1

use Rattle.std.proofs.Common.{◌-◌, refl, arith}
use Rattle.std.proofs.lemmas.Bool.{false≢true}
use Rattle.p1_normal.proofs.tables.find.Goals as goal

pub returns-then-found-eq0-clause-some : goal.returns-then-found-eq0-clause-some
returns-then-found-eq0-clause-some c = (λ e. absurd (false≢true e), λ one. absurd (c.look_up-found.ensures.none c.if-found-eq0.true one))

pub returns-else-found-eq0-clause-number : goal.returns-else-found-eq0-clause-number
returns-else-found-eq0-clause-number c = (c.look_up-found.ensures.some (c.look_up-found.result - 1) (omega (arith, c.if-found-eq0.false))).number

pub returns-else-found-eq0-clause-below : goal.returns-else-found-eq0-clause-below
returns-else-found-eq0-clause-below c = (c.look_up-found.ensures.some (c.look_up-found.result - 1) (omega (arith, c.if-found-eq0.false))).below

pub returns-else-found-eq0-clause-some : goal.returns-else-found-eq0-clause-some
returns-else-found-eq0-clause-some c = (
  λ e. (c.look_up-found.ensures.some (c.look_up-found.result - 1) (omega (arith, c.if-found-eq0.false))).point,
  λ e. refl,
)

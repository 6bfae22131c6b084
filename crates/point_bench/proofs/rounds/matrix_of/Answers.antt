use Rattle.std.proofs.Common.{sym, subst}
use Rattle.p1_normal.specs.Actions.{IsInvertible}
use Rattle.p1_normal.proofs.Moves.{invertible_s, invertible_t}
use Rattle.point_bench.proofs.rounds.matrix_of.Goals as goal

pub returns-then-number-eq0-clause-coprime : goal.returns-then-number-eq0-clause-coprime
returns-then-number-eq0-clause-coprime c = subst (IsInvertible c.args._level.now) (sym c.new.ensures) (invertible_s c.args._level.now)

pub returns-else-number-eq0-clause-coprime : goal.returns-else-number-eq0-clause-coprime
returns-else-number-eq0-clause-coprime c = subst (IsInvertible c.args._level.now) (sym c.new-else-number-eq0.ensures) (invertible_t c.args._level.now)

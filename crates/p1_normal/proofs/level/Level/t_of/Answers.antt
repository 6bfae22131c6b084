use Rattle.std.proofs.Common.{sym, subst}
use Rattle.p1_normal.specs.Actions.{IsInvertible}
use Rattle.p1_normal.proofs.Moves.{invertible_t}
use Rattle.p1_normal.proofs.level.Level.t_of.Goals as goal

pub act-requires-clause-coprime : goal.act-requires-clause-coprime
act-requires-clause-coprime c = subst (IsInvertible c.args.self.now) (sym c.new.ensures) (invertible_t c.args.self.now)

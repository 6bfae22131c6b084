use Rattle.std.proofs.Common.{sym, subst}
use Rattle.p1_normal.specs.Actions.{IsInvertible}
use Rattle.p1_normal.proofs.Moves.{invertible_star}
use Rattle.p1_normal.proofs.Numbers.{level_positive}
use Rattle.p1_normal.proofs.level.Level.star_of.Goals as goal

pub act-requires-clause-coprime : goal.act-requires-clause-coprime
act-requires-clause-coprime c = subst (IsInvertible c.args.self.now) (sym c.new.ensures)
    (invertible_star c.args.self.now (level_positive c.args.self.now c.args.k c.requires.place))

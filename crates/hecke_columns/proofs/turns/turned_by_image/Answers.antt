use Rattle.std.proofs.Common.{sym, ◌∙◌, ap, subst}
use Rattle.std.specs.Prelude.{pos}
use Rattle.p1_normal.specs.Actions.{image_number, IsInvertible, IsSmall}
use Rattle.hecke_columns.proofs.TurnTables.{turn_invertible, turn_small, turn_made}
use Rattle.hecke_columns.proofs.turns.turned_by_image.Goals as goal

pub act-requires-clause-coprime : goal.act-requires-clause-coprime
act-requires-clause-coprime c = subst (IsInvertible c.args.level.now) (sym (turn_made c.args.q c.new.result c.requires.limit c.new.ensures))
    (turn_invertible c.args.level.now (pos c.args.q))

pub act-requires-clause-entries : goal.act-requires-clause-entries
act-requires-clause-entries c = subst IsSmall (sym (turn_made c.args.q c.new.result c.requires.limit c.new.ensures))
    (turn_small c.args.q c.requires.limit)

pub returns-clause-number : goal.returns-clause-number
returns-clause-number c = c.act.ensures.number
    ∙ ap (image_number c.args.level.now c.args.k) (turn_made c.args.q c.new.result c.requires.limit c.new.ensures)

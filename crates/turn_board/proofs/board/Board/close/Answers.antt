use Rattle.turn_board.proofs.Accounts.{ends, ends_as}
use Rattle.std.proofs.Common.{sym, ◌∙◌}
use Rattle.turn_board.proofs.board.Board.close.Goals as goal

pub unreachable-requires : goal.unreachable-requires
unreachable-requires g c =
    let last = ends {g = g.S.Kept} {q = g.S.Entry.PartialEq} c.args.self c.args.passes.items _ _ _ _ c.take-home.result
    c.close_with-closed.ensures.values.2 c.join_all-seat.ensures.view.0 c.join_all-seat.ensures.view.1 c.join_all-seat.ensures.kept c.requires.all
    c.take-home.ensures.value in
    let gone = sym c.in-None.is ∙ last.1 in
    cc

pub returns-clause-label : goal.returns-clause-label
returns-clause-label g c =
    let last = ends {g = g.S.Kept} {q = g.S.Entry.PartialEq} c.args.self c.args.passes.items _ _ _ _ c.take-home.result
    c.close_with-closed.ensures.values.2 c.join_all-seat.ensures.view.0 c.join_all-seat.ensures.view.1 c.join_all-seat.ensures.kept c.requires.all
    c.take-home.ensures.value in
    (ends_as {g = g.S.Kept} {q = g.S.Entry.PartialEq} c.args.self c.args.passes.items c.take-home.result last.0 c.in-Some.state last.1 last.2
    c.in-Some.is).label

pub returns-clause-seen : goal.returns-clause-seen
returns-clause-seen g c =
    let last = ends {g = g.S.Kept} {q = g.S.Entry.PartialEq} c.args.self c.args.passes.items _ _ _ _ c.take-home.result
    c.close_with-closed.ensures.values.2 c.join_all-seat.ensures.view.0 c.join_all-seat.ensures.view.1 c.join_all-seat.ensures.kept c.requires.all
    c.take-home.ensures.value in
    (ends_as {g = g.S.Kept} {q = g.S.Entry.PartialEq} c.args.self c.args.passes.items c.take-home.result last.0 c.in-Some.state last.1 last.2
    c.in-Some.is).seen

pub returns-clause-made : goal.returns-clause-made
returns-clause-made g c =
    let last = ends {g = g.S.Kept} {q = g.S.Entry.PartialEq} c.args.self c.args.passes.items _ _ _ _ c.take-home.result
    c.close_with-closed.ensures.values.2 c.join_all-seat.ensures.view.0 c.join_all-seat.ensures.view.1 c.join_all-seat.ensures.kept c.requires.all
    c.take-home.ensures.value in
    (ends_as {g = g.S.Kept} {q = g.S.Entry.PartialEq} c.args.self c.args.passes.items c.take-home.result last.0 c.in-Some.state last.1 last.2
    c.in-Some.is).made

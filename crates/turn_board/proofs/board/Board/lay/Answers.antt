use Rattle.turn_board.proofs.Opening.{opens}
use Rattle.std.proofs.Common.{ap, sym, subst, [], ◌∷◌, ◌++◌, ◌∙◌}
use Rattle.std.specs.Prelude.{Some}
use Rattle.atomic_table.specs.Table.{opening}
use Rattle.turn_board.specs.History.{BoardHistory}
use Rattle.turn_board.specs.Views.{opening_view}
use Rattle.turn_board.proofs.board.Board.lay.Goals as goal

pub new-requires : goal.new-requires
new-requires g c = subst
    (λ slots. BoardHistory (g.S.Kept.entries 0) g.S.Kept.maker g.S.Kept.label (g.S.Kept.label c.of.result.value) c.args.passes
    (opening (0 ∷ 0 ∷ []) slots (opening_view (g.S.Kept.label c.of.result.value) c.args.passes)))
    (sym (c.push_reserved.ensures.items ∙ ap (λ l. l ++ Some c.args.state ∷ []) c.in-Ok.ensures.items))
    (opens (g.S.Kept.entries 0) g.S.Kept.maker g.S.Kept.label (g.S.Kept.label c.of.result.value) c.args.passes c.args.state c.requires.empty
    (ap g.S.Kept.label (sym c.of.ensures)) c.requires.some)

use Rattle.turn_board.proofs.Steps.{tries}
use Rattle.std.proofs.Common.{rules, sym, subst, ◌∙◌, ◌≡◌, ◌∷◌, ℕ, refl}
use Rattle.std.specs.Prelude.{Some}
use Rattle.turn_board.specs.Plays.{Tries}
use Rattle.atomic_table.specs.Table.{rest}
use Rattle.turn_board.proofs.board.Board.try_take.Goals as goal

pub compare_exchange-found-requires : goal.compare_exchange-found-requires
compare_exchange-found-requires g c = rw (c.from-seat.ensures
    ∙ sym c.args.pass.now.numbered) (
      search rules,
      search rules,
      tries (g.S.Kept.entries 0) g.S.Kept.maker g.S.Kept.label _ _ _ _ _ c.args.pass.now.live c.requires.idle,
    )

pub exchange-requires : goal.exchange-requires
exchange-requires g c =
    let play = c.compare_exchange-found.ensures.2 in
    let t = subst (λ (m : ℕ). Tries (g.S.Kept.entries 0) g.S.Kept.maker g.S.Kept.label c.args.pass.now.seat.me m c.compare_exchange-found.new.seat.me)
    c.if-found-ne0.false play in
    (search rules, (Some t.0, subst (λ l. l ≡ (0, Some t.0) ∷ rest l) (sym t.1) refl))

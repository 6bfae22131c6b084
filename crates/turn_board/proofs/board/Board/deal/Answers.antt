use Rattle.turn_board.proofs.PassLemmas.{dealt_next}
use Rattle.turn_board.proofs.Seats.{deals}
use Rattle.std.proofs.Common.{rules, arith, ◌≡◌, ◌<◌, ℕ, ap, sym, subst, ◌∙◌, length}
use Rattle.std.specs.List.{AllZip, range_with_len}
use Rattle.atomic_table.specs.Table.{Splits}
use Rattle.turn_board.specs.History.{BoardHistory}
use Rattle.turn_board.specs.Passes.{IsNew, opening_state, pass_count}
use Rattle.turn_board.specs.Views.{dealt, next_view}
use Rattle.turn_board.proofs.board.Board.deal.Goals as goal

pub split_seat-seat-requires : goal.split_seat-seat-requires
split_seat-seat-requires g c =
    let (some, within, count, len, next, room, table, id, me, list) = c.loop-number.invariant in
    let view = ap (λ m. m.0) me in (
      search rules,
      search rules,
      subst (λ (n : ℕ). Splits (BoardHistory (g.S.Kept.entries 0) g.S.Kept.maker g.S.Kept.label (g.S.Kept.label (opening_state c.args.self.now))
          (pass_count c.args.self.now)) n c.loop-number.dealer.me.0 (dealt c.loop-number.dealer.me.0) (next_view c.loop-number.dealer.me.0)) (sym id)
          (deals (g.S.Kept.entries 0) g.S.Kept.maker g.S.Kept.label (g.S.Kept.label (opening_state c.args.self.now))
          (pass_count c.args.self.now) c.loop-number.dealer.me.0 (ap (λ v. v.is_live) view)
          (let given : c.loop-number.dealer.me.0.given ≡ c.loop-number.number =
          ap (λ v. v.given) view in let passes : c.loop-number.dealer.me.0.passes ≡ pass_count c.args.self.now =
          ap (λ v. v.passes) view in let more : c.loop-number.number < c.args.passes = c.loop-number-test.true in omega (arith, count))),
    )

pub loop-number-preserved : goal.loop-number-preserved
loop-number-preserved g c =
    let (some, within, count, len, next, room, table, id, me, list) = c.loop-number.invariant in
    let (seat_table, seat_id, seat_me, new_table, new_me) = c.split_seat-seat.ensures in
    let view = ap (λ m. m.0) me in (
      search rules,
      search rules,
      count,
      search rules,
      search rules,
      search rules,
      seat_table ∙ table,
      seat_id ∙ id,
      seat_me ∙ ap (λ m. (dealt m.0, m.1)) me,
      subst (λ l. AllZip (IsNew {g = g.S.Kept} {q = g.S.Entry.PartialEq} c.args.self.now) (range_with_len 1 (length l)) l)
          (sym c.push_reserved.ensures.items)
          (dealt_next {g = g.S.Kept} {q = g.S.Entry.PartialEq} c.args.self.now c.loop-number.list.items _ c.loop-number.number 0 next (new_table
          ∙ table) (ap (λ m. m.0) new_me ∙ ap next_view view) list),
    )

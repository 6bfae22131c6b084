use Rattle.turn_board.proofs.JoinedPasses.{popped, joined_next}
use Rattle.turn_board.proofs.Merging.{merged_keeps}
use Rattle.turn_board.proofs.Seats.{merges}
use Rattle.std.proofs.Common.{rules, ◌≡◌, ap, ◌∙◌, [], ◌∷◌, ◌++◌, false, append_assoc}
use Rattle.turn_board.specs.Passes.{IsOf, opening_state, pass_count, view}
use Rattle.turn_board.proofs.board.Board.join_all.Goals as goal

pub join_seat-requires : goal.join_seat-requires
join_seat-requires g c =
    let (table, live, idle, done, items, kept) = c.loop-pass.invariant in
    let seat = c.into_seat.ensures.seat in
    let of = popped (IsOf {g = g.S.Kept} {q = g.S.Entry.PartialEq} c.args.self.now)
    c.args.passes.items c.loop-pass.passes.items _ done c.in-Some-pop.pass items c.in-Some-pop.ensures.items c.requires.board in
    let still = popped (λ pass. (view {g = g.S.Kept} {q = g.S.Entry.PartialEq} pass).has_turn ≡ false)
    c.args.passes.items c.loop-pass.passes.items _ done c.in-Some-pop.pass items c.in-Some-pop.ensures.items c.requires.idle in (
      table,
      ap (λ s. s.table_id) seat ∙ of.table,
      c.into_seat.ensures.empty still,
      search rules,
      merges (g.S.Kept.entries 0) g.S.Kept.maker g.S.Kept.label (g.S.Kept.label (opening_state c.args.self.now))
          (pass_count c.args.self.now) _ _ _ _ live c.into_seat.ensures.live idle (ap (λ s. s.me.0.has_turn) seat ∙ still),
    )

pub loop-pass-preserved : goal.loop-pass-preserved
loop-pass-preserved g c =
    let (table, live, idle, done, items, kept) = c.loop-pass.invariant in
    let seat = c.into_seat.ensures.seat in
    let still = popped (λ pass. (view {g = g.S.Kept} {q = g.S.Entry.PartialEq} pass).has_turn ≡ false)
    c.args.passes.items c.loop-pass.passes.items _ done c.in-Some-pop.pass items c.in-Some-pop.ensures.items c.requires.idle in
    let (new_table, new_id, new_me) = c.join_seat.ensures in
    let keeps = merged_keeps c.loop-pass.seat.me.0 c.into_seat.result.me.0 live c.into_seat.ensures.live idle (ap (λ s. s.me.0.has_turn) seat
    ∙ still) in
    let is = ap (λ m. m.0) new_me in (
      new_table ∙ table,
      ap (λ v. v.is_live) is ∙ keeps.live,
      ap (λ v. v.has_turn) is ∙ keeps.idle,
      c.in-Some-pop.pass ∷ done,
      items ∙ ap (λ l. l ++ done) c.in-Some-pop.ensures.items ∙ append_assoc _ (c.in-Some-pop.pass ∷ []) done,
      joined_next c.loop-pass.seat.me.0 c.into_seat.result.me.0 _ c.in-Some-pop.pass done (ap (λ s. s.me.0) seat) is keeps kept,
    )

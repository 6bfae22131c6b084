use Rattle.std.proofs.Common.{◌≡◌, ◌<◌, ℕ, length, sym, ◌∙◌, ap, subst, arith}
use Rattle.std.specs.Prelude.{slice_index}
use Rattle.std.proofs.lemmas.List.{with_items_is}
use Rattle.p1_normal.specs.Points.{symbols}
use Rattle.cusps_boundary.specs.declared.walk.TheConstants.{NONE}
use Rattle.cusps_boundary.specs.Tables.{Marks}
use Rattle.cusps_boundary.proofs.CuspNumbers.{entry_is, entry_is_not}
use Rattle.cusps_boundary.proofs.Walking.{IsWalked, walked_reached, walked_free, walked_same, unmarked_cusp, walked_least, walked_numbers}
use Rattle.cusps_boundary.proofs.walk.walked.Goals as goal
use Rattle.cusps_boundary.proofs.walk.walked.Goals.{then-index+in_ok-push, else-index}

pub mark-requires-clause-unmarked : goal.mark-requires-clause-unmarked
mark-requires-clause-unmarked c = λ j e.
    let inside : c.loop-k.k < length (symbols c.args.level.now) = omega (arith, c.loop-k-test.true, c.count-k-end.ensures.count) in
    ap (λ xs. slice_index xs j) c.deref_mut.ensures.value
    ∙ unmarked_cusp c.args.level.now NONE c.loop-k.k c.loop-k.least.items c.loop-k.numbers.items inside
    (entry_is c.loop-k.numbers.items c.loop-k.k c.index.result.now NONE
    (omega (arith, inside, c.loop-k.invariant.size)) c.index.ensures c.if-index.true) c.loop-k.invariant j e

pub loop-k-preserved : goal.loop-k-preserved
loop-k-preserved c =
    let N : ℕ = c.args.level.now in
    let k : ℕ = c.loop-k.k in
    let inside : c.loop-k.k < length (symbols c.args.level.now) = omega (arith, c.loop-k-test.true, c.count-k-end.ensures.count) in
    let read : c.loop-k.k < length c.loop-k.numbers.items = omega (arith, inside, c.loop-k.invariant.size) in
    elim c.if-index.branch [
      | then-index+in_ok-push w ↦
          let old = subst (λ xs. Marks N k (length c.loop-k.least.items) xs w.mark.new.numbers) w.deref_mut.ensures.value
          (subst (λ n. Marks N k n w.deref_mut.result.now w.mark.new.numbers) (w.len.ensures ∙ c.loop-k.least.ok.0) w.mark.ensures) in
          walked_same (ap (λ list. list.items) w.least-is ∙ w.in_ok-push.ensures.items)
          (ap (λ list. list.items) w.numbers-is ∙ with_items_is c.loop-k.numbers w.mark.new.numbers (old.size ∙ sym c.loop-k.numbers.ok.0))
          (walked_free N NONE k c.loop-k.least.items c.loop-k.numbers.items w.mark.new.numbers inside
          (omega (arith, c.count-k-end.ensures.count, c.count-k-end.ensures.limited))
          (entry_is c.loop-k.numbers.items k c.index.result.now NONE read c.index.ensures w.if-index.true) old c.loop-k.invariant)
      | else-index w ↦ walked_same (ap (λ list. list.items) w.least-is) (ap (λ list. list.items) w.numbers-is)
          (walked_reached N NONE k c.loop-k.least.items c.loop-k.numbers.items inside
          (entry_is_not c.loop-k.numbers.items k c.index.result.now NONE read c.index.ensures w.if-index.false) c.loop-k.invariant)
    ]

pub returns-clause-least : goal.returns-clause-least
returns-clause-least c =
    let last : c.loop-k.k ≡ length (symbols c.args.level.now) = omega
    (arith, c.loop-k-test.false, c.loop-k.auto.k-end, c.count-k-end.ensures.count) in
    walked_least c.args.level.now NONE c.loop-k.least.items c.loop-k.numbers.items
    (subst (λ k. IsWalked c.args.level.now NONE k c.loop-k.least.items c.loop-k.numbers.items) last c.loop-k.invariant)

pub returns-clause-numbers : goal.returns-clause-numbers
returns-clause-numbers c =
    let last : c.loop-k.k ≡ length (symbols c.args.level.now) = omega
    (arith, c.loop-k-test.false, c.loop-k.auto.k-end, c.count-k-end.ensures.count) in
    walked_numbers c.args.level.now NONE c.loop-k.least.items c.loop-k.numbers.items
    (subst (λ k. IsWalked c.args.level.now NONE k c.loop-k.least.items c.loop-k.numbers.items) last c.loop-k.invariant)

use Rattle.std.proofs.Common.{◌<◌, ◌^◌, arith, get_or, length, refl}
use Rattle.std.proofs.lemmas.List.Elements.{All-get_or, All-set}
use Rattle.field_table.proofs.Lists.{dense_start}
use Rattle.quotient_coords.proofs.RowSums.{dense_more_congruent, product_few}
use Rattle.quotient_coords.proofs.row_sums.add_multiple.Goals as goal

pub loop-term-init : goal.loop-term-init
loop-term-init c = record { sum = dense_start c.args.field c.args.c c.args.sums.now c.args.terms.now; room = c.requires.room }

pub overflow_add-sums : goal.overflow_add-sums
overflow_add-sums c =
    let term = get_or c.args.terms.now c.loop-term.term-index (0, 0) in
    let place = All-get_or (λ t. t.0 < length c.args.sums.now) c.args.terms.now c.loop-term.term-index (0, 0) c.loop-term-test.true
    c.requires.places in
    let below = All-get_or (λ x. x < 2 ^ 63) c.loop-term.sums term.0 0 (omega (arith, place, c.loop-term.auto.sums)) c.loop-term.invariant.room in
    let number = All-get_or (λ t. t.1 < c.args.field) c.args.terms.now c.loop-term.term-index (0, 0) c.loop-term-test.true c.requires.residues in
    let product = product_few c.from.result c.from-in-loop-term.result (2 ^ 32) (2 ^ 24) (omega (arith, c.from.ensures, c.ranges.c.fits))
    (omega (arith, c.from-in-loop-term.ensures, number, c.characteristic-p.ensures.limit, c.characteristic-p.ensures.value)) in
    omega (arith, below, product)

pub loop-term-preserved : goal.loop-term-preserved
loop-term-preserved c = record {
  sum = dense_more_congruent c.args.field c.args.c _ _ c.with_room.result c.loop-term.sums c.args.sums.now c.args.terms.now c.loop-term.term-index
      c.loop-term-test.true refl refl (omega arith)
      (rw (c.characteristic-p.ensures.value, c.from.ensures, c.from-in-loop-term.ensures) at c.with_room.ensures.congruent) c.loop-term.invariant.sum;
  room = All-set (λ x. x < 2 ^ 63) c.loop-term.sums _ c.with_room.result c.with_room.ensures.room c.loop-term.invariant.room;
}

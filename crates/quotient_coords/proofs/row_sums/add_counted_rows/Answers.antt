use Rattle.std.proofs.Common.{arith}
use Rattle.quotient_coords.proofs.RowSums.{counted_none, counted_zero, counted_some, counted_all}
use Rattle.quotient_coords.proofs.row_sums.add_counted_rows.Goals as goal
use Rattle.quotient_coords.proofs.row_sums.add_counted_rows.Goals.{then-counts-k-ne0, else-counts-k-ne0}

pub loop-k-init : goal.loop-k-init
loop-k-init c = record { counted = counted_none c.args.field c.args.rows.now c.args.counts.now c.args.sums.now; room = c.requires.room }

pub loop-k-preserved : goal.loop-k-preserved
loop-k-preserved c = elim c.if-counts-k-ne0.branch [
  | then-counts-k-ne0 w ↦ rw w.sums-is record {
    counted = counted_some c.args.field c.args.rows.now c.args.counts.now c.loop-k.k w.index-rows-k.result c.args.sums.now c.loop-k.sums
        w.add_multiple.new.sums (omega arith) w.index-rows-k.is w.if-counts-k-ne0.true (rw w.terms.ensures.terms at w.add_multiple.ensures.sum)
        c.loop-k.invariant.counted;
    room = w.add_multiple.ensures.room;
  }
  | else-counts-k-ne0 w ↦ rw w.sums-is record {
    counted = counted_zero c.args.field c.args.rows.now c.args.counts.now c.loop-k.k c.args.sums.now c.loop-k.sums w.if-counts-k-ne0.false
        c.loop-k.invariant.counted;
    room = c.loop-k.invariant.room;
  }
]

pub returns : goal.returns
returns c = record {
  sum = counted_all c.args.field c.args.rows.now c.args.counts.now c.loop-k.k c.args.sums.now c.loop-k.sums (omega arith) c.loop-k.invariant.counted;
}

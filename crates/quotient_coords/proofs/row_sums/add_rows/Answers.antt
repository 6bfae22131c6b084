use Rattle.std.proofs.Common.{arith, refl}
use Rattle.linear_algebra.specs.Dense.{dense}
use Rattle.quotient_coords.proofs.SymbolRows.{combined_none, combined_more}
use Rattle.quotient_coords.proofs.row_sums.add_rows.Goals as goal

pub loop-term-init : goal.loop-term-init
loop-term-init c = record {
  sum = combined_none c.args.field c.args.rows.now (dense c.args.field c.args.sums.now);
  room = c.requires.room;
}

pub loop-term-preserved : goal.loop-term-preserved
loop-term-preserved c = record {
  sum = combined_more c.args.field c.args.rows.now c.args.terms.now c.loop-term.term-index _ _ c.index-rows-term.result
      (dense c.args.field c.args.sums.now) (dense c.args.field c.loop-term.sums)
      (dense c.args.field c.add_multiple.new.sums) c.loop-term-test.true refl refl (omega arith) c.index-rows-term.is c.loop-term.invariant.sum
      (rw c.terms.ensures.terms at c.add_multiple.ensures.sum);
  room = c.add_multiple.ensures.room;
}

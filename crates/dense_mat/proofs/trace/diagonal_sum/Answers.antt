use Rattle.dense_mat.proofs.Traces.{trace_more}
use Rattle.dense_mat.proofs.trace.diagonal_sum.Goals as goal

pub loop-i-preserved : goal.loop-i-preserved
loop-i-preserved c = record {
  value = trace_more c.args.field c.args.mat.now c.loop-i.i c.loop-i.trace c.entry.result c.add-trace.result
      c.loop-i.invariant.value c.entry.ensures c.add-trace.ensures.value;
  below = c.add-trace.ensures.below;
}

use Rattle.std.proofs.Common.{arith, ◌<◌, take}
use Rattle.std.proofs.lemmas.List.Elements.{All-get_or}
use Rattle.linear_algebra.proofs.SparseLaws.{sparse_more}
use Rattle.linear_algebra.specs.Sparse.{sparse}
use Rattle.field_table.specs.Terms.{place_at}
use Rattle.field_table.proofs.Gathering.{run_step}
use Rattle.field_table.proofs.gather.run_from.Goals as goal

pub loop-end-init : goal.loop-end-init
loop-end-init c = record {
  after = omega arith;
  within = omega arith;
  sum = sparse_more c.args.field c.args.terms.now c.args.start c.requires.within;
  below = All-get_or (λ t. t.1 < c.args.field) c.args.terms.now c.args.start (0, 0) c.requires.within c.requires.residues;
}

pub loop-end-preserved : goal.loop-end-preserved
loop-end-preserved c = record {
  after = omega arith;
  within = omega arith;
  sum = run_step c.args.field c.args.terms.now (sparse c.args.field (take c.args.start c.args.terms.now)) c.loop-end.end
      (place_at c.args.terms.now c.args.start) c.loop-end.sum c.add-sum.result
      (omega arith) c.if-terms-end.true c.loop-end.invariant.sum c.add-sum.ensures.value;
  below = c.add-sum.ensures.below;
}

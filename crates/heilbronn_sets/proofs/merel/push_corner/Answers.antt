use Rattle.std.proofs.Common.{◌∙◌, refl, arith}
use Rattle.heilbronn_sets.specs.Merel.{with_row}
use Rattle.heilbronn_sets.proofs.Rows.{corner_all, pieces_more}
use Rattle.heilbronn_sets.proofs.merel.push_corner.Goals as goal

pub loop-b-preserved : goal.loop-b-preserved
loop-b-preserved c = c.in_ok-push_row.ensures.items ∙ pieces_more (with_row c.args.n c.args.a) c.loop-b.b c.args.list.now.items c.loop-b.list.items
    (with_row c.args.n c.args.a c.loop-b.b) c.loop-b.invariant refl

pub returns : goal.returns
returns c = record {
  items = corner_all c.args.n c.args.a c.loop-b.b c.args.list.now.items c.loop-b.list.items c.requires.corner (omega arith)
      (omega arith) c.loop-b.invariant;
}

use Rattle.std.proofs.Common.{[], ◌∙◌, refl, arith}
use Rattle.heilbronn_sets.specs.Merel.{with_corner}
use Rattle.heilbronn_sets.proofs.Rows.{corners_none, pieces_more, corners_all}
use Rattle.heilbronn_sets.proofs.merel.all_rows.Goals as goal

pub loop-a-init : goal.loop-a-init
loop-a-init c = c.new-list.ensures.items ∙ corners_none c.args.n

pub loop-a-preserved : goal.loop-a-preserved
loop-a-preserved c = c.in_ok-push_corner.ensures.items ∙ pieces_more (with_corner c.args.n) c.loop-a.a [] c.loop-a.list.items
    (with_corner c.args.n c.loop-a.a) c.loop-a.invariant refl

pub returns : goal.returns
returns c = record { items = corners_all c.args.n c.loop-a.a c.loop-a.list.items (omega arith) (omega arith) c.loop-a.invariant }

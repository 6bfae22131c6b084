use Rattle.std.proofs.Common.{◌∙◌, arith}
use Rattle.heilbronn_chains.proofs.StartLists.{rows_none, rows_more, rows_all}
use Rattle.heilbronn_chains.proofs.lists.all_starts.Goals as goal

pub loop-a-init : goal.loop-a-init
loop-a-init c = c.new-list.ensures.items ∙ rows_none c.args.n

pub loop-a-preserved : goal.loop-a-preserved
loop-a-preserved c = rows_more c.args.n c.loop-a.a c.loop-a.list.items c.push_corner.new.list.items c.loop-a.invariant
    c.in_ok-push_corner.ensures.items

pub returns : goal.returns
returns c = record { items = rows_all c.args.n c.loop-a.a c.loop-a.list.items (omega arith) (omega arith) c.loop-a.invariant }

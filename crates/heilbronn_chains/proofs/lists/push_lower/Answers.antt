use Rattle.std.proofs.Common.{◌∙◌, arith}
use Rattle.heilbronn_sets.proofs.Rows.{signed_entries}
use Rattle.heilbronn_chains.proofs.StartLists.{lower_more, lower_all}
use Rattle.heilbronn_chains.proofs.lists.push_lower.Goals as goal

pub loop-c-preserved : goal.loop-c-preserved
loop-c-preserved c =
    let few = c.requires.few in
    lower_more c.args.a c.args.d c.loop-c.c c.args.list.now.items c.loop-c.list.items c.push.new.self.items c.new.result c.loop-c.invariant
    c.in_ok-push.ensures.items
    (c.new.ensures ∙ signed_entries c.args.a 0 c.loop-c.c c.args.d few.0 (omega arith) (omega (arith, few.1, c.loop-c-test.true)) few.1)

pub returns : goal.returns
returns c = record {
  items = lower_all c.args.a c.args.d c.loop-c.c c.args.list.now.items c.loop-c.list.items (omega arith)
      (omega arith) c.loop-c.invariant;
}

use Rattle.std.proofs.Common.{◌+◌, sym, subst}
use Rattle.manin_relations.proofs.RelationLists.{AreFirstRelations, rows_more}
use Rattle.manin_relations.proofs.list.all_rows.Goals as goal

pub loop-k-preserved : goal.loop-k-preserved
loop-k-preserved c = subst (AreFirstRelations c.args.level.now c.args.field (c.loop-k.k + 1)) (sym c.in_ok-push.ensures.items)
    (rows_more c.args.level.now c.args.field c.loop-k.k c.loop-k.rows.items c.in_ok-relation.field-0 c.loop-k.invariant c.in_ok-relation.ensures)

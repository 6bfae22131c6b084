use Rattle.manin_relations.proofs.RelationLists.{AreFirstRelations}
use Rattle.manin_relations.proofs.list.all_rows.Given as goal

abbrev pub invariant-loop-k : goal.invariant-loop-k
invariant-loop-k l = AreFirstRelations l.level l.field l.k l.rows.items

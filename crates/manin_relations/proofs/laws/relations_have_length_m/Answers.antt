use Rattle.manin_relations.proofs.RelationLaws.{length-relations, row-relations, EndsBefore-relations}
use Rattle.manin_relations.proofs.laws.relations_have_length_m.Goals as goal

pub returns : goal.returns
returns c = record {
  count = length-relations;
  row = row-relations;
  width = EndsBefore-relations;
}

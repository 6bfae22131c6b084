use Rattle.manin_relations.proofs.RelationLaws.{Congruent-pair, Congruent-triple}
use Rattle.manin_relations.proofs.laws.relations_are_congruent_to_zero.Goals as goal

pub returns : goal.returns
returns c = record {
  two_term = Congruent-pair;
  three_term = Congruent-triple;
}

use Rattle.merel_theorem.proofs.Respects.{merel_relation, merel_congruent}
use Rattle.merel_theorem.proofs.laws.merel_sums_respect_relations.Goals as goal

pub returns : goal.returns
returns c = record { relation = merel_relation; congruent = merel_congruent }

use Rattle.heilbronn_sets.proofs.SmallSets.{merel_matrices-one, merel_matrices-two, merel_matrices-three}
use Rattle.heilbronn_sets.proofs.laws.small_sets.Goals as goal

pub returns : goal.returns
returns c = record {
  one = merel_matrices-one;
  two = merel_matrices-two;
  three = merel_matrices-three;
}

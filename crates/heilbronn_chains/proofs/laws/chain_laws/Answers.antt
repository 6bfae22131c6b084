use Rattle.std.proofs.Common.{◌∙◌}
use Rattle.heilbronn_chains.proofs.Divisors.{length-starts}
use Rattle.heilbronn_chains.proofs.ChainLists.{count_same, has_place, one_place_of, place_member, chains_permutation}
use Rattle.heilbronn_chains.proofs.laws.chain_laws.Goals as goal

pub returns : goal.returns
returns c = record {
  place = has_place;
  one_place = one_place_of;
  members = place_member;
  all = chains_permutation;
  count =
      λ n css some h. count_same n css h ∙ length-starts n some;
}

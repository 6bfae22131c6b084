use Rattle.heilbronn_sets.proofs.Members.{Contains-merel_matrices, IsMerel-trace, length-merel_matrices}
use Rattle.heilbronn_sets.proofs.laws.merel_laws.Goals as goal

pub returns : goal.returns
returns c = record {
  members = Contains-merel_matrices;
  trace = IsMerel-trace;
  many = length-merel_matrices;
}

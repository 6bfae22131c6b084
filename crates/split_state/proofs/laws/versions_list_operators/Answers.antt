use Rattle.split_state.proofs.Versions.{version_lists, version_characteristic, version_dim, version_sized, version_matches}
use Rattle.split_state.proofs.laws.versions_list_operators.Goals as goal

pub returns-clause-operators : goal.returns-clause-operators
returns-clause-operators c = version_lists

pub returns-clause-characteristic : goal.returns-clause-characteristic
returns-clause-characteristic c = version_characteristic

pub returns-clause-dim : goal.returns-clause-dim
returns-clause-dim c = version_dim

pub returns-clause-sized : goal.returns-clause-sized
returns-clause-sized c = version_sized

pub returns-clause-matches : goal.returns-clause-matches
returns-clause-matches c = λ g entries s op m listed. version_matches g listed entries s op m

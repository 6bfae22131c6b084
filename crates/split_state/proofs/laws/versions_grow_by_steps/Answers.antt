use Rattle.split_state.proofs.Versions.{version_none, version_whole, version_more, version_last}
use Rattle.split_state.proofs.laws.versions_grow_by_steps.Goals as goal

pub returns-clause-none : goal.returns-clause-none
returns-clause-none c = λ g s. (version_none g s, version_whole g s)

pub returns-clause-more : goal.returns-clause-more
returns-clause-more c = version_more

pub returns-clause-last : goal.returns-clause-last
returns-clause-last c = version_last

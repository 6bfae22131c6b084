use Rattle.split_state.proofs.NextSteps.{first_version, next_version, version_exists}
use Rattle.split_state.proofs.laws.versions_exist.Goals as goal

pub returns : goal.returns
returns c = record { none = first_version; more = next_version; law = version_exists }

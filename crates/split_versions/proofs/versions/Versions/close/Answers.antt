use Rattle.split_versions.proofs.TurnLemmas.{versions_of_label}
use Rattle.split_versions.proofs.versions.Versions.close.Goals as goal

pub returns-clause-versions : goal.returns-clause-versions
returns-clause-versions c = versions_of_label _ _ _ c.close-state.ensures.label c.entries.ensures.versions

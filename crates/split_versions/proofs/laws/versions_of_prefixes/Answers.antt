use Rattle.split_versions.proofs.Prefixes.{version_prefix, prefix_refines, prefix_splitting}
use Rattle.split_versions.proofs.laws.versions_of_prefixes.Goals as goal

pub returns-clause-law : goal.returns-clause-law
returns-clause-law c = λ g entries s h i l. version_prefix g entries s h i

pub returns-clause-refining : goal.returns-clause-refining
returns-clause-refining c = λ g entries listed. prefix_refines g listed entries

pub returns-clause-splittings : goal.returns-clause-splittings
returns-clause-splittings c = prefix_splitting

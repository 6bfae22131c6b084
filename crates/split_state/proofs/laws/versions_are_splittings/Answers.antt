use Rattle.split_state.proofs.VersionSplittings.{first_splitting, next_splitting, entry_refines, version_splitting}
use Rattle.split_state.proofs.laws.versions_are_splittings.Goals as goal

pub returns-clause-none : goal.returns-clause-none
returns-clause-none c = λ g s listed. first_splitting g listed s

pub returns-clause-more : goal.returns-clause-more
returns-clause-more c = λ g entries e s r k listed h splits central. next_splitting g listed entries e s r h splits k central

pub returns-clause-refines : goal.returns-clause-refines
returns-clause-refines c = λ g e s r. entry_refines g s e r

pub returns-clause-law : goal.returns-clause-law
returns-clause-law c = λ g entries s listed. version_splitting g listed entries s

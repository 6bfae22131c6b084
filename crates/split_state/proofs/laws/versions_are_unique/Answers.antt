use Rattle.field_table.proofs.TableFacts.{listed_prime}
use Rattle.split_state.proofs.Versions.{operator_matrix_once, version_once}
use Rattle.split_state.proofs.laws.versions_are_unique.Goals as goal

pub returns-clause-law : goal.returns-clause-law
returns-clause-law c = λ g entries s t listed. version_once g listed entries s t

pub returns-clause-matrix : goal.returns-clause-matrix
returns-clause-matrix c = λ g op m o listed. operator_matrix_once g (listed_prime g.characteristic listed) op m o

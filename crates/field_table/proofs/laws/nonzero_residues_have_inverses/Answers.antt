use Rattle.field_table.proofs.TableFacts.{listed_inverse}
use Rattle.field_table.proofs.laws.nonzero_residues_have_inverses.Goals as goal

pub returns : goal.returns
returns c = record { law = listed_inverse }

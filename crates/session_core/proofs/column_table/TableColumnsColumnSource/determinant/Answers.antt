use Rattle.heilbronn_sets.proofs.Members.{All-merel_matrices}
use Rattle.session_core.proofs.column_table.TableColumnsColumnSource.determinant.Goals as goal

pub returns-clause-each : goal.returns-clause-each
returns-clause-each c k d l = (All-merel_matrices c.args.self.now.n k d l).determinant_is

use Rattle.legal_runs.proofs.GeneratedTexts.{texts_read}
use Rattle.legal_runs.proofs.laws.generated_texts_are_read.Goals as goal

pub returns : goal.returns
returns c = record { law = texts_read }

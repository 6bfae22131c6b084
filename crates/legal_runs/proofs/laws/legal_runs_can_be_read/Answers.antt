use Rattle.legal_runs.proofs.ReadableLemmas.{transcripts_can_be_read, runs_can_be_read, runs_have_their_texts}
use Rattle.legal_runs.proofs.laws.legal_runs_can_be_read.Goals as goal

pub returns : goal.returns
returns c = record { transcripts = transcripts_can_be_read; runs = runs_can_be_read; texts = runs_have_their_texts }

-- Legal transcripts and legal runs keep the rules of transcripts.
use Rattle.reply_text.proofs.TextFormat.{one_text}
use Rattle.legal_runs.specs.Readable.{TranscriptsCanBeRead, RunsCanBeRead, RunsHaveTheirTexts}
use Rattle.legal_runs.proofs.FewColumns.{columns_few}
use Rattle.legal_runs.proofs.LegalTexts.{legal_rules}
use Rattle.legal_runs.proofs.ScriptLimits.{read_script}

pub transcripts_can_be_read : TranscriptsCanBeRead
transcripts_can_be_read text script t short read legal few = legal_rules text script t short (read_script text script read) legal few

pub runs_can_be_read : RunsCanBeRead
runs_can_be_read text script t short read run =
    transcripts_can_be_read text script t short read run.legal (columns_few text script t short (read_script text script read) run.columns)

pub runs_have_their_texts : RunsHaveTheirTexts
runs_have_their_texts text other script second s t short brief read found run rerun same =
    one_text s t (runs_can_be_read text script s short read run) (runs_can_be_read other second t brief found rerun) same

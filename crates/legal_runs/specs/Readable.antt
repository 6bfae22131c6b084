-- What a host writes of a legal run is read back as the transcript of that run. The script is that of a text of fewer than 2^32 - 1 bytes.
--   TranscriptsCanBeRead   a legal transcript keeps the rules of transcripts, where its number of columns is below 2^64
--   RunsCanBeRead          a legal run does
--   RunsHaveTheirTexts     so two legal runs of such scripts with one text are one transcript
use Rattle.std.specs.Prelude.{◌≡◌, ◌<◌, ◌^◌, ℕ, List, Ok}
use Rattle.script_text.specs.Numbered.{IsShort}
use Rattle.script_text.specs.Scripts.{script_of}
use Rattle.script_text.specs.Valid.{ScriptText}
use Rattle.reply_text.specs.declared.transcript.Transcript.{Transcript}
use Rattle.reply_text.specs.Rules.{IsTranscript}
use Rattle.reply_text.specs.Transcripts.{transcript_text}
use Rattle.session_core.specs.Transcripts.{IsLegalRun, IsLegalTranscript}

abbrev pub TranscriptsCanBeRead : Type 0
TranscriptsCanBeRead = (text : List ℕ) (script : ScriptText) (t : Transcript) → IsShort text → script_of text ≡ Ok script
    → IsLegalTranscript script t → t.columns < 2 ^ 64 → IsTranscript t

abbrev pub RunsCanBeRead : Type 0
RunsCanBeRead = (text : List ℕ) (script : ScriptText) (t : Transcript) → IsShort text → script_of text ≡ Ok script
    → IsLegalRun script t → IsTranscript t

abbrev pub RunsHaveTheirTexts : Type 0
RunsHaveTheirTexts = (text other : List ℕ) (script second : ScriptText) (s t : Transcript) → IsShort text → IsShort other
    → script_of text ≡ Ok script → script_of other ≡ Ok second → IsLegalRun script s → IsLegalRun second t
    → transcript_text s ≡ transcript_text t → s ≡ t

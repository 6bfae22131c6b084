use Rattle.std.proofs.Common.{◌≡◌, ◌+◌, ◌≤◌, length}
use Rattle.reply_text.proofs.States.{Holds}
use Rattle.reply_text.proofs.TextFormat.{reading}
use Rattle.reply_text.proofs.TranscriptReads.{reading_from}
use Rattle.reply_text.proofs.transcript_reader.read_transcript.Given as goal

abbrev pub invariant-loop-line : goal.invariant-loop-line
invariant-loop-line l = record {
  reads : reading_from l.state l.number l.rest ≡ reading l.bytes;
  holds : Holds l.state;
  few : l.number + length l.rest ≤ length l.bytes + 1;
}

abbrev pub decreases-loop-line : goal.decreases-loop-line
decreases-loop-line l = length l.rest

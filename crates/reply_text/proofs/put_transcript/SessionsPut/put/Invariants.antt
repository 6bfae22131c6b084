use Rattle.std.proofs.Common.{◌≡◌, ℕ, ◌+◌, List, Result, drop}
use Rattle.std.specs.declared.option.Option.{Option}
use Rattle.text_lines.specs.Lines.{ended}
use Rattle.sym_io.specs.declared.fault.Failed.{Failed}
use Rattle.sym_io.specs.Writing.{BuffersText}
use Rattle.reply_text.specs.Transcripts.{session_lines}
use Rattle.reply_text.proofs.put_transcript.SessionsPut.put.Given as goal

abbrev pub invariant-loop-session : goal.invariant-loop-session
invariant-loop-session g l =
    record {
      number : l.number ≡ l.session-index + 1;
      puts : (written : Option (List ℕ)) (kept : List ℕ) (result : Result (Unit {0}) Failed)
          → BuffersText (g.O.Sink.written l.output) written l.buffer kept (ended (session_lines l.number (drop l.session-index l.self))) result
          → BuffersText (g.O.Sink.written l.initial.output) written l.initial.buffer kept (ended (session_lines 1 l.self)) result;
      faults : g.O.Sink.faults l.output ≡ g.O.Sink.faults l.initial.output;
    }

use Rattle.std.proofs.Common.{◌≡◌, ◌<◌, Some, None, length, rules, arith}
use Rattle.reply_text.specs.Lexemes.{then_option}
use Rattle.reply_text.specs.LineForms.{line_of}
use Rattle.reply_text.specs.Steps.{step}
use Rattle.reply_text.proofs.TranscriptReads.{holds_next, faulty_none, reads_next, faulty_end, faulty_cut, found_end}
use Rattle.reply_text.proofs.transcript_reader.read_transcript.Goals as goal

pub returns-in_default-2-clause-fault : goal.returns-in_default-2-clause-fault
returns-in_default-2-clause-fault c =
    let none : None ≡ then_option (line_of c.in-Some.line.now) (step c.loop-line.state) = cc (c.in_default-2.is, c.in_ok-next.ensures) in
    faulty_none c.args.bytes.now c.loop-line.state c.loop-line.number c.loop-line.rest.now
    c.in-Some.line.now c.in-Some.after.now c.loop-line.invariant.reads c.in-Some.ensures.line none

pub loop-line-preserved : goal.loop-line-preserved
loop-line-preserved c =
    let some : Some c.in-Some-2.next ≡ then_option (line_of c.in-Some.line.now) (step c.loop-line.state) =
    cc (c.in-Some-2.is, c.in_ok-next.ensures) in
    record {
      reads = reads_next c.args.bytes.now c.loop-line.state c.in-Some-2.next c.loop-line.number c.loop-line.rest.now
          c.in-Some.line.now c.in-Some.after.now c.loop-line.invariant.reads c.in-Some.ensures.line some;
      holds = holds_next c.loop-line.state c.in-Some-2.next c.in-Some.line.now c.loop-line.invariant.holds some;
      few = omega (arith, c.in-Some.ensures.shorter, c.loop-line.invariant.few);
    }

pub returns-in-None-clause-fault : goal.returns-in-None-clause-fault
returns-in-None-clause-fault c =
    faulty_end c.args.bytes.now c.loop-line.state c.loop-line.number c.loop-line.rest.now
    c.loop-line.invariant.reads c.in_default.ensures.line c.in-None.ensures

pub returns-then-is_empty-clause-text : goal.returns-then-is_empty-clause-text
returns-then-is_empty-clause-text c =
    let none : length c.loop-line.rest.now ≡ 0 = search rules in
    (found_end c.args.bytes.now c.loop-line.state c.loop-line.number c.loop-line.rest.now c.in-Some-finish.t
    c.loop-line.invariant.reads c.in_default.ensures.line c.in-Some-finish.ensures none).1

pub returns-else-is_empty-clause-fault : goal.returns-else-is_empty-clause-fault
returns-else-is_empty-clause-fault c =
    let some : 0 < length c.loop-line.rest.now = search rules in
    faulty_cut c.args.bytes.now c.loop-line.state c.loop-line.number c.loop-line.rest.now c.loop-line.invariant.reads c.in_default.ensures.line some

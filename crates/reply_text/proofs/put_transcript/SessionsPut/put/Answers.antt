use Rattle.std.proofs.Common.{◌∙◌, arith}
use Rattle.std.proofs.Math.ListN.{drop_of_length-le}
use Rattle.sym_io.proofs.Buffers.{BuffersText-append, BuffersText-nothing, BuffersText-failed, drop_item}
use Rattle.reply_text.proofs.LineLemmas.{ended-session_lines}
use Rattle.reply_text.proofs.put_transcript.SessionsPut.put.Goals as goal

pub returns-in_err-put-clause-puts : goal.returns-in_err-put-clause-puts
returns-in_err-put-clause-puts g c =
    let items = drop_item c.as_slice-session-items.result.now c.loop-session.session-index c.session-item.result
    c.session-item.is c.loop-session-test.true in
    let left = rw c.as_slice-session-items.ensures at items in
    let block = rw c.as_slice-replies.ensures at c.in_err-put.ensures.puts in
    c.loop-session.invariant.puts _ _ _
    (rw (left, ended-session_lines c.loop-session.number c.session-item.result)
    (BuffersText-failed _ _ _ _ _ _ _ _ _ c.from_residual.ensures.0 block))

pub loop-session-preserved : goal.loop-session-preserved
loop-session-preserved g c =
    let items = drop_item c.as_slice-session-items.result.now c.loop-session.session-index c.session-item.result
    c.session-item.is c.loop-session-test.true in
    let left = rw c.as_slice-session-items.ensures at items in
    let block = rw c.as_slice-replies.ensures at c.in_ok-put.ensures.puts in
    record {
      number = omega arith;
      puts = λ written kept result others.
          c.loop-session.invariant.puts written kept result
          (rw (left, ended-session_lines c.loop-session.number c.session-item.result)
          (BuffersText-append _ _ _ _ _ _ _ _ _ _ block others));
      faults = c.in_ok-put.ensures.cause.stands ∙ c.loop-session.invariant.faults;
    }

pub returns-clause-puts : goal.returns-clause-puts
returns-clause-puts g c =
    let none = rw c.as_slice-session-items.ensures at (drop_of_length-le c.as_slice-session-items.result.now c.loop-session-test.false) in
    c.loop-session.invariant.puts _ _ _ (rw none (BuffersText-nothing _ _ _))

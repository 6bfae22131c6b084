use Rattle.std.proofs.Common.{◌∙◌, arith}
use Rattle.std.proofs.Math.ListN.{drop_of_length-le}
use Rattle.sym_io.proofs.Buffers.{BuffersText-append, BuffersText-nothing, BuffersText-failed, drop_item}
use Rattle.reply_text.proofs.put_transcript.HistoryPut.put.Goals as goal

pub returns-in_err-put-clause-puts : goal.returns-in_err-put-clause-puts
returns-in_err-put-clause-puts g c =
    let items = drop_item c.as_slice-split-items.result.now c.loop-split.split-index c.split-item.result c.split-item.is c.loop-split-test.true in
    let left = rw c.as_slice-split-items.ensures at items in
    c.loop-split.invariant.puts _ _ _
    (rw left (BuffersText-failed _ _ _ _ _ _ _ _ _ c.from_residual.ensures.0 c.in_err-put.ensures.puts))

pub loop-split-preserved : goal.loop-split-preserved
loop-split-preserved g c =
    let items = drop_item c.as_slice-split-items.result.now c.loop-split.split-index c.split-item.result c.split-item.is c.loop-split-test.true in
    let left = rw c.as_slice-split-items.ensures at items in
    record {
      number = omega arith;
      puts = λ written kept result others.
          c.loop-split.invariant.puts written kept result
          (rw left (BuffersText-append _ _ _ _ _ _ _ _ _ _ c.in_ok-put.ensures.puts others));
      faults = c.in_ok-put.ensures.cause.stands ∙ c.loop-split.invariant.faults;
    }

pub returns-clause-puts : goal.returns-clause-puts
returns-clause-puts g c =
    let none = rw c.as_slice-split-items.ensures at (drop_of_length-le c.as_slice-split-items.result.now c.loop-split-test.false) in
    c.loop-split.invariant.puts _ _ _ (rw none (BuffersText-nothing _ _ _))

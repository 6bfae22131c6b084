use Rattle.std.proofs.Common.{◌∙◌}
use Rattle.std.proofs.Math.ListN.{drop_of_length-le}
use Rattle.sym_io.proofs.Buffers.{BuffersText-append, BuffersText-nothing, BuffersText-failed, drop_item}
use Rattle.reply_text.proofs.put.put_each.Goals as goal

pub returns-in_err-put-clause-puts : goal.returns-in_err-put-clause-puts
returns-in_err-put-clause-puts g c =
    let items = drop_item c.args.items.now c.loop-item.item-index c.item-item.result c.item-item.is c.loop-item-test.true in
    let item = BuffersText-failed _ _ _ _ c.put.new.self _ (g.P.Put.text c.item-item.result) _ c.from_residual.result
    c.from_residual.ensures.0 c.in_err-put.ensures.text in
    c.loop-item.invariant.puts _ _ _ (rw items (BuffersText-failed _ _ _ _ _ _ _ _ c.from_residual.result c.from_residual.ensures.0 item))

pub returns-in_err-put-2-clause-puts : goal.returns-in_err-put-2-clause-puts
returns-in_err-put-2-clause-puts g c =
    let items = drop_item c.args.items.now c.loop-item.item-index c.item-item.result c.item-item.is c.loop-item-test.true in
    let item = BuffersText-append _ _ _ _ _ _ _ _ _ _ c.in_ok-put.ensures.text c.in_err-put-2.ensures.puts in
    c.loop-item.invariant.puts _ _ _ (rw items (BuffersText-failed _ _ _ _ _ _ _ _ _ c.from_residual-in_err-put-2.ensures.0 item))

pub loop-item-preserved : goal.loop-item-preserved
loop-item-preserved g c =
    let items = drop_item c.args.items.now c.loop-item.item-index c.item-item.result c.item-item.is c.loop-item-test.true in
    let item = BuffersText-append _ _ _ _ _ _ _ _ _ _ c.in_ok-put.ensures.text c.in_ok-put-2.ensures.puts in
    record {
      puts = λ written kept result left.
          c.loop-item.invariant.puts written kept result (rw items (BuffersText-append _ _ _ _ _ _ _ _ _ _ item left));
      faults = c.in_ok-put-2.ensures.cause.stands ∙ c.in_ok-put.ensures.cause.stands ∙ c.loop-item.invariant.faults;
    }

pub returns-clause-puts : goal.returns-clause-puts
returns-clause-puts g c =
    let none = drop_of_length-le c.args.items.now c.loop-item-test.false in
    c.loop-item.invariant.puts _ _ _ (rw none (BuffersText-nothing _ _ _))

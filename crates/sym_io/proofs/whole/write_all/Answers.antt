use Rattle.std.proofs.Common.{◌∙◌, ◌-◌, length, take, drop, arith, length-drop}
use Rattle.std.proofs.lemmas.List.{length-take}
use Rattle.sym_io.proofs.Buffers.{Appends-take-add}
use Rattle.sym_io.proofs.whole.write_all.Goals as goal

pub loop-at-preserved : goal.loop-at-preserved
loop-at-preserved g c =
    let rest = take (length c.args.bytes.now - c.loop-at.at) (drop c.loop-at.at c.args.bytes.now) in
    record {
      within = omega (
        arith,
        c.in_ok-at.ensures.bound.1,
        length-drop c.loop-at.at c.args.bytes.now,
        length-take (length c.args.bytes.now - c.loop-at.at) (drop c.loop-at.at c.args.bytes.now),
      );
      appended = Appends-take-add _ _ _ c.loop-at.at c.in_ok-at.field-0 c.args.bytes.now c.loop-at.invariant.appended c.in_ok-at.ensures.bytes;
      faults = c.in_ok-at.ensures.cause.stands ∙ c.loop-at.invariant.faults;
    }

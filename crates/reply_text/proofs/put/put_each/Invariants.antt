use Rattle.std.proofs.Common.{◌≡◌, ℕ, List, ◌++◌, Result, flat_map, drop}
use Rattle.std.specs.declared.option.Option.{Option}
use Rattle.sym_io.specs.declared.fault.Failed.{Failed}
use Rattle.sym_io.specs.Writing.{BuffersText}
use Rattle.reply_text.proofs.put.put_each.Given as goal

abbrev pub invariant-loop-item : goal.invariant-loop-item
invariant-loop-item g l =
    record {
      puts : (written : Option (List ℕ)) (kept : List ℕ) (result : Result (Unit {0}) Failed)
          → BuffersText (g.O.Sink.written l.output) written l.buffer kept
          (flat_map (λ item. l.before ++ g.P.Put.text item) (drop l.item-index l.items)) result
          → BuffersText (g.O.Sink.written l.initial.output) written l.initial.buffer kept
          (flat_map (λ item. l.before ++ g.P.Put.text item) l.items) result;
      faults : g.O.Sink.faults l.output ≡ g.O.Sink.faults l.initial.output;
    }

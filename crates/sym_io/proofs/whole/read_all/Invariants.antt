use Rattle.std.proofs.Common.{◌≡◌, ◌-◌, ◌≤◌, vec_len}
use Rattle.std.specs.Io.KnownBytes.{Consumes}
use Rattle.sym_io.proofs.whole.read_all.Given as goal

abbrev pub invariant-pieces : goal.invariant-pieces
invariant-pieces g l =
    record {
      taken : Consumes (g.I.Source.left l.initial.input) (g.I.Source.left l.input) l.bytes.items;
      small : vec_len l.bytes ≤ l.limit;
      faults : g.I.Source.faults l.input ≡ g.I.Source.faults l.initial.input;
    }

abbrev pub decreases-pieces : goal.decreases-pieces
decreases-pieces g l = l.limit - vec_len l.bytes

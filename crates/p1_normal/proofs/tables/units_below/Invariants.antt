use Rattle.std.proofs.Common.{◌≡◌}
use Rattle.std.specs.Prelude.{filter}
use Rattle.std.specs.List.{range_with_len}
use Rattle.p1_normal.specs.Units.{is_unit}
use Rattle.p1_normal.proofs.tables.units_below.Given as goal

abbrev pub invariant-loop-s : goal.invariant-loop-s
invariant-loop-s l = l.list.items ≡ filter (is_unit l.n) (range_with_len 0 l.s)

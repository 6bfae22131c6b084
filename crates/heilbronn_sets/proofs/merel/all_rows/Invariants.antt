use Rattle.std.proofs.Common.{◌≡◌}
use Rattle.std.specs.List.{range_with_len, flat_map}
use Rattle.heilbronn_sets.specs.Merel.{with_corner}
use Rattle.heilbronn_sets.proofs.merel.all_rows.Given as goal

abbrev pub invariant-loop-a : goal.invariant-loop-a
invariant-loop-a l = l.list.items ≡ flat_map (with_corner l.n) (range_with_len 0 l.a)

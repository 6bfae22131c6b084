use Rattle.std.proofs.Common.{◌≡◌, ◌++◌}
use Rattle.std.specs.List.{range_with_len, flat_map}
use Rattle.heilbronn_sets.specs.Merel.{with_row}
use Rattle.heilbronn_sets.proofs.merel.push_corner.Given as goal

abbrev pub invariant-loop-b : goal.invariant-loop-b
invariant-loop-b l = l.list.items ≡ l.initial.list.items ++ flat_map (with_row l.n l.a) (range_with_len 0 l.b)

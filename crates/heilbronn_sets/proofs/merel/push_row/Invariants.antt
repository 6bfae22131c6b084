use Rattle.std.proofs.Common.{◌-◌, ◌≡◌, ◌≤◌, ◌+◌, ◌*◌, ◌++◌}
use Rattle.std.specs.List.{range_with_len, flat_map}
use Rattle.heilbronn_sets.specs.Merel.{with_three}
use Rattle.heilbronn_sets.proofs.Entries.{AreParts}
use Rattle.heilbronn_sets.proofs.merel.push_row.Given as goal

abbrev pub invariant-loop-c : goal.invariant-loop-c
invariant-loop-c l = record {
  parts : AreParts l.n l.a l.b l.c l.quotient l.rest;
  within : l.c ≤ l.n;
  few : l.quotient ≤ l.n + 1;
  items : l.list.items ≡ l.initial.list.items ++ flat_map (with_three l.n l.a l.b) (range_with_len 0 l.c);
}

abbrev pub decreases-loop-c : goal.decreases-loop-c
decreases-loop-c l = l.n + l.b * l.c - l.a * l.c

use Rattle.std.proofs.Common.{◌≡◌, length, map}
use Rattle.std.specs.Arc.{arc_value}
use Rattle.hecke_columns.specs.Gathering.{symbol_of}
use Rattle.hecke_columns.proofs.GatheringLemmas.{FindsFirst}
use Rattle.hecke_columns.proofs.gathered.numbers_of.Given as goal

abbrev pub invariant-loop-i : goal.invariant-loop-i
invariant-loop-i l = record {
  count : length l.numbers.items ≡ l.count;
  finds : FindsFirst (map (λ c. symbol_of (arc_value c)) l.columns) l.i l.numbers.items;
}

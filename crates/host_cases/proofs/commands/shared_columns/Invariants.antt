use Rattle.std.proofs.Common.{◌≡◌, All, map, take}
use Rattle.std.specs.Arc.{arc_value}
use Rattle.hecke_columns.specs.Gathering.{IsGathered, symbol_of}
use Rattle.host_cases.proofs.commands.shared_columns.Given as goal

abbrev pub invariant-loop-k : goal.invariant-loop-k
invariant-loop-k l = record {
  gathered : All (λ c. IsGathered l.space l.n (arc_value c)) l.columns.items;
  symbols : map (λ c. symbol_of (arc_value c)) l.columns.items ≡ take l.k-index l.given;
}

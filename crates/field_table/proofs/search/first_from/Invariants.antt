use Rattle.std.proofs.Common.{ℕ, ◌-◌, ◌<◌, ◌≤◌, length}
use Rattle.field_table.specs.Terms.{place_at}
use Rattle.field_table.proofs.search.first_from.Given as goal

abbrev pub invariant-loop-low : goal.invariant-loop-low
invariant-loop-low l = record {
  ordered : l.low ≤ l.high;
  within : l.high ≤ length l.terms;
  below : (k : ℕ) → k < l.low → place_at l.terms k < l.place;
  from : (k : ℕ) → l.high ≤ k → k < length l.terms → l.place ≤ place_at l.terms k;
}

abbrev pub decreases-loop-low : goal.decreases-loop-low
decreases-loop-low l = l.high - l.low

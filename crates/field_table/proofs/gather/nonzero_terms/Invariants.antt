use Rattle.field_table.proofs.Gathering.{IsListing}
use Rattle.field_table.proofs.gather.nonzero_terms.Given as goal

abbrev pub invariant-loop-place : goal.invariant-loop-place
invariant-loop-place l = IsListing l.numbers l.place l.terms.items

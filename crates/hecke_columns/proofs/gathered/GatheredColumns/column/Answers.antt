use Rattle.std.proofs.Common.{subst}
use Rattle.quotient_coords.specs.Quotient.{ground_of}
use Rattle.hecke_columns.specs.Gathering.{Gathering, IsGathered}
use Rattle.hecke_columns.proofs.gathered.GatheredColumns.column.Goals as goal

pub column_at-requires-clause-finds : goal.column_at-requires-clause-finds
column_at-requires-clause-finds c = rw c.as_slice.ensures.value (rw c.as_slice-2.ensures.value c.self.invariant.1)

pub returns : goal.returns
returns c = record {
  gathered = subst (λ (s : Gathering). IsGathered s.ground s.n c.column_at.result.now) c.self.view_is
      (c.column_at.ensures.gathered (ground_of c.self.inside.modulus c.self.inside.field) c.self.inside.n
      (rw c.as_slice.ensures.value c.self.invariant.0));
  symbol_is = c.column_at.ensures.symbol;
}

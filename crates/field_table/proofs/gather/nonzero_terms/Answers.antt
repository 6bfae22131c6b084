use Rattle.std.proofs.Common.{arith}
use Rattle.field_table.proofs.Gathering.{listing_some, listing_zero, sparse-listing, HasResidues-listing, HasPlacesBelow-listing}
use Rattle.field_table.proofs.gather.nonzero_terms.Goals as goal
use Rattle.field_table.proofs.gather.nonzero_terms.Goals.{then-numbers-place-ne0+in_ok-push, else-numbers-place-ne0}

pub loop-place-preserved : goal.loop-place-preserved
loop-place-preserved c = elim c.if-numbers-place-ne0.branch [
  | then-numbers-place-ne0+in_ok-push w ↦ rw (w.terms-is, w.in_ok-push.ensures.items)
      (listing_some _ _ _ c.loop-place.invariant w.if-numbers-place-ne0.true)
  | else-numbers-place-ne0 w ↦ rw w.terms-is (listing_zero _ _ _ c.loop-place.invariant w.if-numbers-place-ne0.false)
]

pub returns-clause-vector : goal.returns-clause-vector
returns-clause-vector c p = sparse-listing p c.args.numbers.now c.loop-place.place c.loop-place.terms.items (omega arith) c.loop-place.invariant

pub returns-clause-residues : goal.returns-clause-residues
returns-clause-residues c p = HasResidues-listing p c.args.numbers.now c.loop-place.place c.loop-place.terms.items (omega arith)
    c.loop-place.invariant

pub returns-clause-places : goal.returns-clause-places
returns-clause-places c = HasPlacesBelow-listing c.args.numbers.now c.loop-place.place c.loop-place.terms.items (omega arith) c.loop-place.invariant

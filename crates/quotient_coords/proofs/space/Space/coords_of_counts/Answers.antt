use Rattle.std.proofs.Common.{◌≡◌, All, length, sym, ◌∙◌, ap, subst, arith}
use Rattle.linear_algebra.specs.Dense.{dense}
use Rattle.linear_algebra.specs.Sparse.{sparse, sparse_rows}
use Rattle.linear_algebra.specs.Vector.{combination}
use Rattle.field_table.specs.Residues.{HasResidues}
use Rattle.field_table.specs.Terms.{HasPlacesBelow}
use Rattle.field_table.proofs.Gathering.{HasPlacesBelow-listing, sparse-listing}
use Rattle.p1_normal.specs.Points.{symbols}
use Rattle.quotient_coords.specs.Quotient.{AreCoordinates, dimension}
use Rattle.quotient_coords.proofs.RowSums.{has_listing}
use Rattle.quotient_coords.proofs.Spaces.{positive_of}
use Rattle.quotient_coords.proofs.SymbolRows.{coordinates_from_rows, places_of_rows, residues_of_rows}
use Rattle.quotient_coords.proofs.space.Space.coords_of_counts.Goals as goal

pub combination_of_counts-requires-clause-counts : goal.combination_of_counts-requires-clause-counts
combination_of_counts-requires-clause-counts c =
    subst (λ g. length c.args.counts.now ≡ length (symbols g.level)) (sym c.self.view_is) c.requires
    ∙ sym (ap (λ rows. length rows) c.as_slice.ensures.value ∙ c.self.invariant.1.count)

pub combination_of_counts-requires-clause-row_places : goal.combination_of_counts-requires-clause-row_places
combination_of_counts-requires-clause-row_places c =
    let free : c.dim.result ≡ dimension c.self.inside.level c.self.inside.field = c.dim.ensures.dimension
    ∙ sym (ap (λ g. dimension g.level g.characteristic) c.self.view_is) in
    subst (λ n. All (HasPlacesBelow n) c.as_slice.result.now) (sym free)
    (subst (All (HasPlacesBelow (dimension c.self.inside.level c.self.inside.field))) (sym c.as_slice.ensures.value)
    (places_of_rows c.self.inside.level c.self.inside.field (length (symbols c.self.inside.level)) c.self.inside.rows.items c.self.invariant.1))

pub combination_of_counts-requires-clause-row_residues : goal.combination_of_counts-requires-clause-row_residues
combination_of_counts-requires-clause-row_residues c = subst (All (HasResidues c.self.inside.field)) (sym c.as_slice.ensures.value)
    (residues_of_rows c.self.inside.level c.self.inside.field (length (symbols c.self.inside.level)) c.self.inside.rows.items c.self.invariant.1)

pub returns : goal.returns
returns c =
    let N = c.self.inside.level in
    let p = c.self.inside.field in
    let counts = c.args.counts.now in
    let values = c.in_ok-combination_of_counts.field-0.items in
    let free : c.dim.result ≡ dimension N p = c.dim.ensures.dimension ∙ sym (ap (λ g. dimension g.level g.characteristic) c.self.view_is) in
    let count : length counts ≡ length (symbols N) = subst (λ g. length counts ≡ length (symbols g.level)) (sym c.self.view_is) c.requires in
    let h = has_listing counts (length counts) in
    let vector : sparse p h.terms ≡ dense p counts = sparse-listing p counts (length counts) h.terms (omega arith) h.is in
    let below : HasPlacesBelow (length (symbols N)) h.terms = subst (λ n. HasPlacesBelow n h.terms) count
    (HasPlacesBelow-listing counts (length counts) h.terms (omega arith) h.is) in
    subst (λ g. AreCoordinates g.level (dense g.characteristic counts) c.of.result) c.self.view_is
    (subst (AreCoordinates N (dense p counts)) (sym c.of.ensures)
    (subst (λ v. AreCoordinates N v values) vector
    (coordinates_from_rows N p c.self.inside.rows.items h.terms values (positive_of c.self.invariant.0) c.self.invariant.1 below
    (c.in_ok-combination_of_counts.ensures.count ∙ free) c.in_ok-combination_of_counts.ensures.residues
    (c.in_ok-combination_of_counts.ensures.sum ∙ ap (λ rows. combination (dense p counts) (sparse_rows p rows)) c.as_slice.ensures.value
    ∙ ap (λ v. combination v (sparse_rows p c.self.inside.rows.items)) (sym vector)))))

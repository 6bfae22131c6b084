-- The unit vectors are the reduced echelon basis of all vectors.
use Rattle.std.proofs.Common.{◌≡◌, ◌<◌, ℕ, length, sym, ◌∙◌, ap, subst, arith}
use Rattle.std.specs.List.{range_with_len}
use Rattle.std.proofs.lemmas.List.Elements.{All-from_get_or}
use Rattle.std.proofs.lemmas.List.FromFn.{length-range_with_len}
use Rattle.linear_algebra.specs.Coordinates.{unit}
use Rattle.linear_algebra.specs.Dense.{dense, dense_rows}
use Rattle.linear_algebra.specs.Residue.{residue}
use Rattle.linear_algebra.specs.Span.{row}
use Rattle.linear_algebra.proofs.BoundPlaces.{in_range}
use Rattle.linear_algebra.proofs.Coordinates.{unit_at, unit_elsewhere}
use Rattle.linear_algebra.proofs.DenseLaws.{row-dense_rows}
use Rattle.linear_algebra.proofs.Vectors.{one-scale}
use Rattle.dense_mat.specs.Echelon.{AreRows, HasLeads, lead, IsEchelon}
use Rattle.dense_mat.specs.Matrix.{scalar}
use Rattle.dense_mat.proofs.Composites.{scalar_column_vector}
use Rattle.dense_mat.proofs.Scalars.{length-scalar, scalar_at, scalar_matrix}
use Rattle.dense_mat.proofs.Steps.{length-dense_rows}

-- they are rows of n residues
pub identity_rows : (p n : ℕ) → 1 < p → AreRows p n (scalar n 1)
identity_rows p n low = subst (λ m. AreRows p m (scalar n 1)) (length-scalar n 1) (scalar_matrix p n 1 low)

-- row j of the identity is the unit vector at j
row_is_unit : (p n j : ℕ) → j < n → row (dense_rows p (scalar n 1)) j ≡ unit j
row_is_unit p n j l =
    row-dense_rows p (scalar n 1) j (omega (arith, length-scalar n 1)) ∙ ap (dense p) (scalar_at n 1 j l)
    ∙ scalar_column_vector p n 1 j l ∙ one-scale (unit j)

-- its lead stands at j
identity_leads : (p n : ℕ) → HasLeads (dense_rows p (scalar n 1)) (lead (range_with_len 0 n))
identity_leads p n = record {
  rising = λ i j l u. let w : j < n = below j u in omega (arith, at i (omega arith), at j w);
  one_at = λ j u. subst (λ k. row (dense_rows p (scalar n 1)) j k ≡ residue p 1) (sym (at j (below j u)))
      (ap (λ v. v j) (row_is_unit p n j (below j u)) ∙ unit_at j);
  before = λ j u k l. let w : j < n = below j u in ap (λ v. v k) (row_is_unit p n j w)
      ∙ unit_elsewhere j k (λ e. let same : j ≡ k = e in omega (arith, at j w));
  alone = λ i j u w apart. subst (λ k. row (dense_rows p (scalar n 1)) i k ≡ residue p 0) (sym (at j (below j w)))
      (ap (λ v. v j) (row_is_unit p n i (below i u)) ∙ unit_elsewhere i j apart);
}
  where
    below : (j : ℕ) → j < length (dense_rows p (scalar n 1)) → j < n
    below j u = omega (arith, length-dense_rows p (scalar n 1), length-scalar n 1)

    at : (j : ℕ) → j < n → lead (range_with_len 0 n) j ≡ j
    at j l = in_range n j l

-- so they are in reduced echelon form
pub identity_echelon : (p n : ℕ) → 1 < p → IsEchelon p n (scalar n 1) (range_with_len 0 n)
identity_echelon p n low = record {
  rows_of = identity_rows p n low;
  many = length-range_with_len 0 n ∙ sym (length-scalar n 1);
  within = All-from_get_or (λ k. k < n) (range_with_len 0 n) 0 (λ j u. let l : j < n = omega (arith, length-range_with_len 0 n) in
      omega (arith, in_range n j l));
  reduced = identity_leads p n;
}

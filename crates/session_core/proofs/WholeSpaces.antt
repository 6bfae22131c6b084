-- Every space has a version without an entry: the whole space, by the unit vectors.
use Rattle.std.proofs.Common.{◌≡◌, ◌≢◌, ◌⊎◌, inl, inr, ℕ, ◌<◌, ◌≤◌, true, false, cond, nat_eq, [], length, refl, sym, ◌∙◌, ap, subst, arith}
use Rattle.std.proofs.lemmas.Bool.{cases_lt}
use Rattle.std.proofs.lemmas.Bool.Decides.{eqb_tells}
use Rattle.std.proofs.lemmas.List.{get_or_past}
use Rattle.field_table.specs.Table.{IsListed}
use Rattle.field_table.proofs.TableFacts.{listed_above_one, listed_prime}
use Rattle.linear_algebra.specs.Coordinates.{unit}
use Rattle.linear_algebra.specs.Dense.{dense, dense_rows}
use Rattle.linear_algebra.specs.Echelon.{IsReducedEchelon}
use Rattle.linear_algebra.specs.Residue.{residue}
use Rattle.linear_algebra.specs.Span.{row}
use Rattle.linear_algebra.specs.Vector.{EndsBefore, Vector}
use Rattle.linear_algebra.proofs.Coordinates.{unit_at, unit_elsewhere}
use Rattle.linear_algebra.proofs.DenseLaws.{dense_at, row-dense_rows}
use Rattle.linear_algebra.proofs.Support.{EndsBefore-InSpan}
use Rattle.linear_algebra.proofs.Vectors.{one-scale}
use Rattle.dense_mat.specs.Echelon.{AreRows}
use Rattle.dense_mat.specs.Matrix.{scalar, scalar_column}
use Rattle.dense_mat.specs.Subspace.{IsBasisOf, subspace}
use Rattle.dense_mat.proofs.Composites.{apply-scalar}
use Rattle.dense_mat.proofs.Scalars.{entry_at, length-scalar, length-scalar_column, scalar_at, scalar_matrix}
use Rattle.dense_mat.proofs.Steps.{length-dense_rows, rows_end}
use Rattle.split_state.specs.Decomposition.{Decomposition, decomposition}
use Rattle.split_state.specs.Step.{IsWhole, nonzero_of}
use Rattle.split_state.proofs.Parts.{nonzero_part}

-- column j of the identity is unit vector j
unit_column : (p n j : ℕ) → j < n → dense p (scalar_column n 1 j) ≡ unit j
unit_column p n j l = λ i k. at k (cases_lt k n) i
  where
    inside : (k : ℕ) → ((nat_eq k j ≡ true) × (k ≡ j)) ⊎ ((nat_eq k j ≡ false) × (k ≢ j)) → residue p (cond (nat_eq k j) 1 0) ≡ unit j k
    inside k (inl (t, same)) = ap (λ b. residue p (cond b 1 0)) t ∙ sym (ap (unit j) same ∙ unit_at j)
    inside k (inr (t, apart)) = ap (λ b. residue p (cond b 1 0)) t ∙ sym (unit_elsewhere j k (λ e. apart (sym e)))

    at : (k : ℕ) → (k < n) ⊎ (n ≤ k) → dense p (scalar_column n 1 j) k ≡ unit j k
    at k (inl u) = dense_at p (scalar_column n 1 j) k ∙ ap (residue p) (entry_at n 1 j k u) ∙ inside k (eqb_tells k j)
    at k (inr u) =
        dense_at p (scalar_column n 1 j) k
        ∙ ap (residue p) (get_or_past (scalar_column n 1 j) k 0 (omega (arith, length-scalar_column n 1 j)))
        ∙ sym (unit_elsewhere j k (λ e. let w : j ≡ k = e in omega arith))

-- and so is row j
unit_row : (p n j : ℕ) → j < n → row (dense_rows p (scalar n 1)) j ≡ unit j
unit_row p n j l =
    row-dense_rows p (scalar n 1) j (omega (arith, length-scalar n 1)) ∙ ap (dense p) (scalar_at n 1 j l) ∙ unit_column p n j l

unit_rows : (p n : ℕ) → 1 < p → AreRows p n (scalar n 1)
unit_rows p n above = subst (λ m. AreRows p m (scalar n 1)) (length-scalar n 1) (scalar_matrix p n 1 above)

-- these rows are in reduced echelon form
units_reduced : (p n : ℕ) → IsReducedEchelon (dense_rows p (scalar n 1))
units_reduced p n = record {
  lead = λ j. j;
  rising = λ i j before within. before;
  first = λ j within. (
    ap (λ (v : Vector p). v j) (unit_row p n j (inside j within)) ∙ unit_at j,
    λ k before. ap (λ (v : Vector p). v k) (unit_row p n j (inside j within)) ∙ unit_elsewhere j k (λ e. let w : j ≡ k = e in omega arith),
  );
  alone = λ i j within other apart. ap (λ (v : Vector p). v j) (unit_row p n i (inside i within)) ∙ unit_elsewhere i j apart;
}
  where
    inside : (j : ℕ) → j < length (dense_rows p (scalar n 1)) → j < n
    inside j within = omega (arith, length-dense_rows p (scalar n 1), length-scalar n 1)

-- and the basis of the whole space
units_basis : (p n : ℕ) → 1 < p → IsBasisOf p n (EndsBefore n) (subspace p n (scalar n 1))
units_basis p n above = record {
  characteristic = refl;
  width = refl;
  rows_of = unit_rows p n above;
  reduced = units_reduced p n;
  all = λ v ends. record { coefficients = v; is_combination = sym (apply-scalar p n 1 v ends ∙ one-scale v) };
  only = λ v inside. EndsBefore-InSpan n (dense_rows p (scalar n 1)) v (rows_end p n (scalar n 1) (unit_rows p n above)) inside;
}

-- so there is a whole space of each dimension
pub some_whole : (p d : ℕ) → IsListed p → (s : Decomposition) × IsWhole p d s
some_whole p d listed = (
  decomposition p d (nonzero_of (subspace p d (scalar d 1))) [] [],
  record {
    characteristic = refl;
    dim = refl;
    parts = nonzero_part p d (listed_prime p listed) (EndsBefore d) (subspace p d (scalar d 1))
        (units_basis p d (listed_above_one p listed));
    names = refl;
    matrices = refl;
  },
)

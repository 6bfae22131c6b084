-- The columns of a source, asked for one after another.
use Rattle.std.proofs.Common.{◌≡◌, ◌<◌, ℕ, List, [], length, get_or, replicate, All, sym, ◌∙◌, ap, subst, arith}
use Rattle.std.proofs.lemmas.List.Elements.{All-from_get_or, All-get_or}
use Rattle.linear_algebra.specs.Vector.{zeros}
use Rattle.linear_algebra.specs.Coordinates.{unit}
use Rattle.linear_algebra.proofs.Vectors.{zeros-plus}
use Rattle.field_table.specs.Residues.{AreResidues}
use Rattle.heilbronn_sets.specs.Sets.{Matrices}
use Rattle.p1_normal.specs.declared.matrix.Matrix.{Matrix}
use Rattle.p1_normal.specs.Points.{symbols}
use Rattle.quotient_coords.specs.Quotient.{AreCoordinates, Ground, dimension, free_symbols, ground_of}
use Rattle.quotient_coords.proofs.Maps.{AreFirst, free_symbol_below}
use Rattle.hecke_columns.specs.Hecke.{AddsColumn, IsColumn, hecke_sum}
use Rattle.hecke_columns.proofs.Columns.{columns_start, columns_step}
use Rattle.dense_mat.specs.Echelon.{AreRows}
use Rattle.hecke_ops.specs.Operators.{AreColumns, IsHeckeMatrix}

-- once a column added to zeros is that column
pub IsColumn-from_added : (g : Ground) (L : List Matrix) (k : ℕ) (start values : List ℕ) → 1 < g.characteristic
    → start ≡ replicate (dimension g.level g.characteristic) 0 → AddsColumn g L k 1 start values → IsColumn g L k values
IsColumn-from_added g L k start values above e added =
    let positive : 0 < g.characteristic = omega arith in
    subst (λ v. AreCoordinates g.level (hecke_sum {p = g.characteristic} g.level L v) values) (zeros-plus (unit k))
    (columns_step g L zeros k 1 (replicate (dimension g.level g.characteristic) 0) values positive (columns_start g L positive)
    (subst (λ s. AddsColumn g L k 1 s values) e added))

-- a column at an equal ground and over equal matrices
pub IsColumn-equal : {g h : Ground} {a b : Matrices} (k : ℕ) (values : List ℕ) → g ≡ h → a ≡ b → IsColumn g a.list k values
    → IsColumn h b.list k values
IsColumn-equal {g} {h} {a} {b} k values ground matrices column =
    subst (λ ms. IsColumn h ms.list k values) matrices (subst (λ s. IsColumn s a.list k values) ground column)

-- the columns of the first n symbols
abbrev pub AreFirstColumns : Ground → List Matrix → ℕ → List (List ℕ) → Type 0
AreFirstColumns g L n columns = AreFirst (IsColumn g L) n columns

-- all of them
pub columns_all : (g : Ground) (L : List Matrix) (n : ℕ) (columns : List (List ℕ)) → n ≡ length (symbols g.level)
    → AreFirstColumns g L n columns → AreColumns g.level g.characteristic L columns
columns_all g L n columns whole h = record { count = h.count ∙ whole; each = λ k l. h.each k (omega arith) }

-- each has as many residues as the dimension
pub rows_of_columns : (N p : ℕ) (L : List Matrix) (columns : List (List ℕ)) → AreColumns N p L columns → AreRows p (dimension N p) columns
rows_of_columns N p L columns h = record {
  sized = All-from_get_or (λ r. length r ≡ dimension N p) columns [] (λ k l. (h.each k (omega (arith, h.count))).count);
  residues = All-from_get_or (AreResidues p) columns [] (λ k l. (h.each k (omega (arith, h.count))).residues);
}

-- copies of the columns of the first n free symbols
abbrev pub AreFreeColumns : ℕ → ℕ → ℕ → List (List ℕ) → List (List ℕ) → Type 0
AreFreeColumns N p n columns copies = AreFirst (λ j values. values ≡ get_or columns (get_or (free_symbols N p) j 0) []) n copies

-- all of them are the matrix
pub copies_matrix : (N p : ℕ) (columns copies : List (List ℕ)) → AreFreeColumns N p (dimension N p) columns copies
    → (L : List Matrix) → AreColumns N p L columns → IsHeckeMatrix N p L copies
copies_matrix N p columns copies h L are = record {
  count = h.count;
  each = λ j l. subst (IsColumn (ground_of N p) L (get_or (free_symbols N p) j 0)) (sym (h.each j l))
      (are.each (get_or (free_symbols N p) j 0) (free_symbol_below N p j l));
}

-- and a square of residues
pub copies_square : (N p : ℕ) (columns copies : List (List ℕ)) → AreFreeColumns N p (dimension N p) columns copies
    → length columns ≡ length (symbols N) → AreRows p (dimension N p) columns → AreRows p (length copies) copies
copies_square N p columns copies h count rows = record {
  sized = subst (λ n. All (λ r. length r ≡ n) copies) (sym h.count)
      (All-from_get_or (λ r. length r ≡ dimension N p) copies [] (λ j l.
      ap (λ xs. length xs) (h.each j (within j l)) ∙ All-get_or (λ r. length r ≡ dimension N p) columns (get_or (free_symbols N p) j 0) []
      (inside j l) rows.sized));
  residues = All-from_get_or (AreResidues p) copies [] (λ j l.
      subst (AreResidues p) (sym (h.each j (within j l))) (All-get_or (AreResidues p) columns (get_or (free_symbols N p) j 0) []
      (inside j l) rows.residues));
}
  where
    within : (j : ℕ) → j < length copies → j < dimension N p
    within j l = omega (arith, h.count)

    inside : (j : ℕ) → j < length copies → get_or (free_symbols N p) j 0 < length columns
    inside j l = omega (arith, count, free_symbol_below N p j (within j l))

-- Columns of the products of two matrices in both orders.
use Rattle.std.proofs.Common.{Contains, ◌≡◌, ◌⊎◌, ◌<◌, ◌≤◌, ℕ, List, [], length, slice_index, get_or, refl, sym, ◌∙◌, ap, subst, arith, inl, inr, Option, Some, None, MatchOption}
use Rattle.std.proofs.lemmas.Bool.{cases_lt}
use Rattle.std.proofs.lemmas.List.Elements.{All-get_or}
use Rattle.std.proofs.Math.ListN.{length-map}
use Rattle.field_table.specs.Residues.{AreResidues}
use Rattle.op_polynomials.specs.declared.name.OpName.{OpName}
use Rattle.linear_algebra.specs.Coordinates.{unit}
use Rattle.linear_algebra.specs.Residue.{residue}
use Rattle.linear_algebra.specs.Vector.{Vector, EndsBefore}
use Rattle.linear_algebra.specs.Dense.{dense, dense_rows}
use Rattle.linear_algebra.specs.Span.{Each}
use Rattle.linear_algebra.proofs.Elimination.{combination-unit}
use Rattle.linear_algebra.proofs.DenseLaws.{dense_at, row-dense_rows}
use Rattle.linear_algebra.proofs.Support.{EndsBefore-combination}
use Rattle.linear_algebra.proofs.Rows.{same_rows}
use Rattle.stable_subspaces.specs.Operator.{apply, Commute}
use Rattle.dense_mat.proofs.Composites.{apply-product}
use Rattle.dense_mat.proofs.Steps.{rows_end, length-dense_rows}
use Rattle.split_state.specs.Decomposition.{IsSized, Centralises}
use Rattle.split_state.specs.Difference.{column, Agree, AgreeAll, IsFirstUnequal, IsColumnDifference}
use Rattle.split_state.proofs.Keeping.{Each-get_or}
use Rattle.split_state.proofs.Steps.{row-image}
use Rattle.linear_algebra.specs.Span.{none, more}
use Rattle.std.proofs.Common.{suc, ◌∷◌, map}

-- an entry of a list of residues
entry_of : (p : ℕ) (xs : List ℕ) (v : Vector p) → dense p xs ≡ v → (k : ℕ) → residue p (slice_index xs k) ≡ v k
entry_of p xs v e k = sym (dense_at p xs k) ∙ ap (λ w. w k) e

-- equal entries are equal residues
pub agree_at : (p : ℕ) (a o : List (List ℕ)) (j : ℕ) (xs ys : List ℕ) → dense p xs ≡ apply (dense_rows p a) (dense p (column o j))
    → dense p ys ≡ apply (dense_rows p o) (dense p (column a j)) → (k : ℕ) → slice_index xs k ≡ slice_index ys k → Agree p a o k j
agree_at p a o j xs ys left right k e = sym (entry_of p xs (apply (dense_rows p a) (dense p (column o j))) left k) ∙ ap (residue p) e
    ∙ entry_of p ys (apply (dense_rows p o) (dense p (column a j))) right k

-- the first unequal entries are the first difference of a column
pub column_differs : (p : ℕ) (a o : List (List ℕ)) (j : ℕ) (xs ys : List ℕ) → dense p xs ≡ apply (dense_rows p a) (dense p (column o j))
    → dense p ys ≡ apply (dense_rows p o) (dense p (column a j)) → AreResidues p xs → AreResidues p ys → length xs ≡ length a → length ys ≡ length a
    → (k x y : ℕ) → IsFirstUnequal xs ys k x y → IsColumnDifference p a o k j x y
column_differs p a o j xs ys left right r s l m k x y h = record {
  row_within = omega (arith, h.within);
  left_below = rw h.left (All-get_or (λ n. n < p) xs k 0 h.within r);
  right_below = rw h.right (All-get_or (λ n. n < p) ys k 0 (omega (arith, h.within)) s);
  left = ap (residue p) h.left ∙ entry_of p xs (apply (dense_rows p a) (dense p (column o j))) left k;
  right = ap (residue p) h.right ∙ entry_of p ys (apply (dense_rows p o) (dense p (column a j))) right k;
  differ = h.differ;
  rows_before = λ i w. agree_at p a o j xs ys left right i (h.before i w);
}

-- matrices whose products agree everywhere commute
pub agree_commute : (p d : ℕ) (a o : List (List ℕ)) → IsSized p d a → IsSized p d o → AgreeAll p a o → Commute (dense_rows p a) (dense_rows p o)
agree_commute p d a o h g same = record {
  same = λ v. sym (apply-product (dense_rows p a) (dense_rows p o)
      (map (apply (dense_rows p a)) (dense_rows p o)) v refl) ∙ ap (λ m. apply m v) images
      ∙ apply-product (dense_rows p o) (dense_rows p a) (map (apply (dense_rows p o)) (dense_rows p a)) v refl;
}
  where
    ends_a : Each (EndsBefore d) (dense_rows p a)
    ends_a = subst (λ n. Each (EndsBefore n) (dense_rows p a)) h.size (rows_end p (length a) a h.matrix)

    ends_o : Each (EndsBefore d) (dense_rows p o)
    ends_o = subst (λ n. Each (EndsBefore n) (dense_rows p o)) g.size (rows_end p (length o) o g.matrix)

    at : (j : ℕ) → j < d → (k : ℕ) → (k < d) ⊎ (d ≤ k) → apply (dense_rows p a) (dense p (column o j)) k
        ≡ apply (dense_rows p o) (dense p (column a j)) k
    at j l k (inl u) = same j (omega (arith, h.size)) k (omega (arith, h.size))
    at j l k (inr u) = EndsBefore-combination d (dense p (column o j)) (dense_rows p a) ends_a k u
        ∙ sym (EndsBefore-combination d (dense p (column a j)) (dense_rows p o) ends_o k u)

    images : map (apply (dense_rows p a)) (dense_rows p o) ≡ map (apply (dense_rows p o)) (dense_rows p a)
    images = same_rows (map (apply (dense_rows p a)) (dense_rows p o)) (map (apply (dense_rows p o)) (dense_rows p a))
        (length-map (dense_rows p o) (apply (dense_rows p a)) ∙ length-dense_rows p o ∙ g.size
        ∙ sym (length-map (dense_rows p a) (apply (dense_rows p o)) ∙ length-dense_rows p a ∙ h.size))
        (λ j l.
        let u : j < d = omega (arith, l, length-map (dense_rows p o) (apply (dense_rows p a)), length-dense_rows p o, g.size) in
        row-image (apply (dense_rows p a)) (dense_rows p o) j (omega (arith, length-dense_rows p o, g.size))
        ∙ ap (apply (dense_rows p a)) (row-dense_rows p o j (omega (arith, g.size)))
        ∙ (λ i k. at j u k (cases_lt k d) i)
        ∙ sym (row-image (apply (dense_rows p o)) (dense_rows p a) j (omega (arith, length-dense_rows p a, h.size))
        ∙ ap (apply (dense_rows p o)) (row-dense_rows p a j (omega (arith, h.size)))))

-- so a matrix that agrees with each listed one commutes with each
pub agree_centralises : (p d : ℕ) (a : List (List ℕ)) → IsSized p d a → (matrices : List (List (List ℕ))) → Each (IsSized p d) matrices
    → ((k : ℕ) → k < length matrices → AgreeAll p a (get_or matrices k [])) → Centralises p matrices (dense_rows p a)
agree_centralises p d a h [] none same = none
agree_centralises p d a h (o ∷ matrices) (more g gs) same = more (agree_commute p d a o h g (same 0 (omega arith)))
    (agree_centralises p d a h matrices gs (λ k l. same (suc k) (omega arith)))

-- a column is the image of a unit vector
column_image : (p : ℕ) (m : List (List ℕ)) (j : ℕ) → j < length m → dense p (column m j) ≡ apply (dense_rows p m) (unit j)
column_image p m j l = sym (row-dense_rows p m j l) ∙ sym (combination-unit (dense_rows p m) j (omega (arith, l, length-dense_rows p m)))

-- matrices that commute have products that agree everywhere
commute_agrees : (p : ℕ) (a o : List (List ℕ)) → length o ≡ length a → Commute (dense_rows p a) (dense_rows p o) → AgreeAll p a o
commute_agrees p a o size h j l i k = ap (λ v. v i)
    (ap (apply (dense_rows p a)) (column_image p o j (omega arith)) ∙ h.same (unit j) ∙ ap (apply (dense_rows p o)) (sym (column_image p a j l)))

-- so a listed matrix agrees with each, where listed ones commute
pub listed_agrees : (p : ℕ) (names : List OpName) (matrices : List (List (List ℕ))) (op : OpName) (m : List (List ℕ))
    → length matrices ≡ length names → Each (IsSized p (length m)) matrices
    → ((k : ℕ) → k < length names → get_or names k op ≡ op → get_or matrices k [] ≡ m)
    → Each (λ o. Centralises p matrices (dense_rows p o)) matrices → Contains names op
    → (j : ℕ) → j < length matrices → AgreeAll p m (get_or matrices j [])
listed_agrees p names matrices op m many sized matches commute (k, l, e) j u =
    let here : k < length matrices = omega (arith, many, l) in
    let central : Centralises p matrices (dense_rows p m) =
    subst (λ o. Centralises p matrices (dense_rows p o)) (matches k l e) (Each-get_or matrices k [] here commute) in
    commute_agrees p m (get_or matrices j []) (Each-get_or matrices j [] u sized).size (Each-get_or matrices j [] u central)

-- what holds of an option's cases
pub option_weaker : {T P P' : Type 0} {Q Q' : T → Type 0} (x : Option T) → (P → P') → ((t : T) → Q t → Q' t) → MatchOption x P Q → MatchOption x P' Q'
option_weaker None f g h = f h
option_weaker (Some t) f g h = g t h

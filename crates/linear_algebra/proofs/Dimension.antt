-- Independent rows inside a span are no more than the rows that span it, and where they are as many they span it all.
use Rattle.std.proofs.Common.{◌≡◌, ◌≢◌, ◌⊎◌, ◌<◌, ◌≤◌, ℕ, zero, suc, List, [], ◌∷◌, map, length, refl, sym, ◌∙◌, ap, subst, inl, inr, arith}
use Rattle.std.proofs.Math.ListN.{length-map}
use Rattle.std.proofs.Math.Nat.{le_antisymm}
use Rattle.linear_algebra.specs.Residue.{Residue, residue, ◌⊗◌, opposite}
use Rattle.linear_algebra.specs.Prime.{IsPrime}
use Rattle.linear_algebra.specs.Vector.{Vector, ◌⊞◌, ◌⊡◌, zeros, tail, combination, EndsBefore}
use Rattle.linear_algebra.specs.Span.{Each, none, more, row, InSpan, Independent, Dependent, IsBasis}
use Rattle.linear_algebra.proofs.ResidueLaws
use Rattle.linear_algebra.proofs.Vectors.{plus-zeros, zero-scale, scale-zeros, scale-plus, plus-scale, scale-scale, combination-scale, plus_left_comm, zeros-plus, one-scale}
use Rattle.linear_algebra.proofs.Spans.{cons, Each-rows, InSpan-row}
use Rattle.linear_algebra.proofs.Exchange.{more_than_basis}

-- the coefficients of the rows, and 0 past them
pub trim : {p : ℕ} → List (Vector p) → Vector p → Vector p
trim [] c = zeros
trim (r ∷ rows) c = cons (c 0) (trim rows (tail c))

-- give the same combination
pub combination-trim : {p : ℕ} (c : Vector p) (rows : List (Vector p)) → combination (trim rows c) rows ≡ combination c rows
unfolding trim
combination-trim c [] = refl
combination-trim c (r ∷ rows) = ap (λ v. (c 0 ⊡ r) ⊞ v) (combination-trim (tail c) rows)

-- and end before the number of rows
pub EndsBefore-trim : {p : ℕ} (c : Vector p) (rows : List (Vector p)) → EndsBefore (length rows) (trim rows c)
unfolding trim
EndsBefore-trim c [] k l = refl
EndsBefore-trim c (r ∷ rows) zero l = absurd (omega arith)
EndsBefore-trim c (r ∷ rows) (suc k) l = EndsBefore-trim (tail c) rows k (omega arith)

-- and agree at each of them
pub trim_at : {p : ℕ} (c : Vector p) (rows : List (Vector p)) (j : ℕ) → j < length rows → trim rows c j ≡ c j
unfolding trim
trim_at c [] j l = absurd (omega arith)
trim_at c (r ∷ rows) zero l = refl
trim_at c (r ∷ rows) (suc j) l = trim_at (tail c) rows j (omega arith)

-- rows in a span as combinations of its basis
record Combinations {p : ℕ} (basis rows : List (Vector p)) : Type 0 where
  ds : List (Vector p)
  ends : Each (EndsBefore (length basis)) ds
  same : map (λ d. combination d basis) ds ≡ rows

-- with one row more
one_more : {p : ℕ} (basis : List (Vector p)) (r : Vector p) (rows : List (Vector p)) → InSpan basis r → Combinations basis rows
    → Combinations basis (r ∷ rows)
one_more basis r rows h k = record {
  ds = trim basis h.coefficients ∷ k.ds;
  ends = more (EndsBefore-trim h.coefficients basis) k.ends;
  same =
      cc (combination-trim h.coefficients basis, h.is_combination, k.same);
}

-- rows in a span are combinations by coefficients that end before the size of the basis
combinations : {p : ℕ} (basis rows : List (Vector p)) → Each (InSpan basis) rows → Combinations basis rows
combinations basis [] none = record { ds = []; ends = none; same = refl }
combinations {p} basis (r ∷ rows) (more h hs) = one_more basis r rows h (combinations basis rows hs)

-- more vectors of a span than rows that span it are dependent
pub more_in_span : {p : ℕ} → IsPrime p → (basis rows : List (Vector p)) → Each (InSpan basis) rows → length basis < length rows → Dependent rows
more_in_span prime basis rows each l =
    let k = combinations basis rows each in
    subst Dependent k.same (more_than_basis prime basis k.ds k.ends (subst (λ n. length basis < n)
    (ap length (sym k.same) ∙ length-map k.ds (λ d. combination d basis)) l))

-- independent rows are not dependent
not_dependent : {p : ℕ} (rows : List (Vector p)) → Independent rows → Dependent rows → ⊥
not_dependent rows i (c, j, l, nonzero, e) = nonzero (i.only_zero c e j l)

-- independent rows in a span are at most as many as the rows that span it
pub independent_le : {p : ℕ} → IsPrime p → (basis rows : List (Vector p)) → Independent rows → Each (InSpan basis) rows → length rows ≤ length basis
independent_le prime basis rows i each =
    let no : length basis < length rows → ⊥ = λ l. not_dependent rows i (more_in_span prime basis rows each l) in
    omega arith

-- vectors with one opposite are equal
plus_cancel : {p : ℕ} (v w u : Vector p) → v ⊞ u ≡ zeros → w ⊞ u ≡ zeros → v ≡ w
plus_cancel v w u e f = sym (plus-zeros v) ∙ ap (λ x. v ⊞ x) (sym f) ∙ plus_left_comm v w u ∙ ap (λ x. w ⊞ x) e ∙ plus-zeros w

-- a row that a nontrivial combination holds is a combination of the others
pub row_from_others : {p : ℕ} → IsPrime p → (v : Vector p) (rows : List (Vector p)) (c : Vector p) (b : Residue p) → c 0 ⊗ b ≡ residue p 1
    → combination c (v ∷ rows) ≡ zeros → InSpan rows v
row_from_others {p} prime v rows c b e z = record {
  coefficients = opposite b ⊡ tail c;
  is_combination =
      plus_cancel v (opposite b ⊡ rest) (b ⊡ rest) whole none' ∙ sym (combination-scale (opposite b) (tail c) rows);
}
  where
    rest : Vector p
    rest = combination (tail c) rows

    whole : v ⊞ (b ⊡ rest) ≡ zeros
    whole = ap (λ x. x ⊞ (b ⊡ rest)) (sym (one-scale v) ∙ ap (λ a. a ⊡ v) (sym e ∙ ResidueLaws.mul_comm (c 0) b) ∙ scale-scale b (c 0) v)
        ∙ sym (scale-plus b (c 0 ⊡ v) rest) ∙ ap (λ x. b ⊡ x) z ∙ scale-zeros b

    none' : (opposite b ⊡ rest) ⊞ (b ⊡ rest) ≡ zeros
    none' = sym (plus-scale (opposite b) b rest) ∙ ap (λ a. a ⊡ rest) (ResidueLaws.add_comm (opposite b) b
        ∙ ResidueLaws.add-opposite (omega (arith, prime.above_one)) b) ∙ zero-scale rest

-- as many independent rows as the basis has span it all
pub spans_all : {p : ℕ} → IsPrime p → (basis rows : List (Vector p)) → Independent rows → Each (InSpan basis) rows → length rows ≡ length basis
    → (v : Vector p) → InSpan basis v → InSpan rows v
spans_all {p} prime basis rows i each same v h = by_dependence (more_in_span prime basis (v ∷ rows) (more h each) (omega arith))
  where
    by_dependence : Dependent (v ∷ rows) → InSpan rows v
    by_dependence (c, j, l, nonzero, e) = at_first (ResidueLaws.zero_or_inverse prime (c 0))
      where
        at_first : (c 0 ≡ residue p 0) ⊎ ((b : Residue p) × (c 0 ⊗ b ≡ residue p 1)) → InSpan rows v
        at_first (inl z) = absurd (not_first z j l nonzero)
          where
            not_first : c 0 ≡ residue p 0 → (j : ℕ) → j < length (v ∷ rows) → c j ≢ residue p 0 → ⊥
            not_first z zero l nonzero = nonzero z
            not_first z (suc j) l nonzero = nonzero (i.only_zero (tail c)
                (sym (zeros-plus (combination (tail c) rows)) ∙ ap (λ x. x ⊞ combination (tail c) rows) (sym (zero-scale v) ∙ ap (λ a. a ⊡ v) (sym z))
                ∙ e) j (omega arith))
        at_first (inr k) = row_from_others prime v rows c k.0 k.1 e

-- two bases of one span have one size
pub basis_sizes : {p : ℕ} → IsPrime p → (rows xs ys : List (Vector p)) → IsBasis rows xs → IsBasis rows ys → length xs ≡ length ys
basis_sizes prime rows xs ys b c = le_antisymm
    (independent_le prime ys xs b.independent (Each-rows (InSpan ys) xs
    (λ j l. c.same.forth (row xs j) (b.same.back (row xs j) (InSpan-row xs j l)))))
    (independent_le prime xs ys c.independent (Each-rows (InSpan xs) ys
    (λ j l. b.same.forth (row ys j) (c.same.back (row ys j) (InSpan-row ys j l)))))

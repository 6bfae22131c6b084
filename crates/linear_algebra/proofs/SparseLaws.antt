-- Sums of terms: joined lists, the steps of a merge, and the one rising list without zeros for a vector.
use Rattle.std.proofs.Common.{◌≡◌, ◌≢◌, ◌⊎◌, ◌+◌, ◌*◌, ◌%◌, ◌<◌, ◌≤◌, ℕ, zero, suc, List, [], ◌∷◌, ◌++◌, length, get_or, take, All, refl, sym, ◌∙◌, ap, subst, inl, inr, arith, true, false, Bool, cond, nat_eq, eq-eqb, eqb-true}
use Rattle.std.proofs.Math.Nat.{zero-mod, mod-mod, mod-eq_of_lt}
use Rattle.std.proofs.Math.Decide.{ℕ_discrete}
use Rattle.std.proofs.lemmas.Bool.{cases_lt}
use Rattle.std.proofs.lemmas.List.{take_more}
use Rattle.std.proofs.lemmas.List.Elements.{All-get_or, All-head, All-tail}
use Rattle.linear_algebra.specs.Residue.{residue, ◌⊕◌, ◌⊗◌}
use Rattle.linear_algebra.specs.Vector.{Vector, ◌⊞◌, ◌⊡◌, zeros, EndsBefore}
use Rattle.linear_algebra.specs.Span.{row}
use Rattle.linear_algebra.specs.Dense.{dense}
use Rattle.linear_algebra.specs.Coordinates.{unit}
use Rattle.linear_algebra.specs.Echelon.{IsGreatestPlace}
use Rattle.linear_algebra.specs.Sparse.{sparse, sparse_rows, single, IsCombo}
use Rattle.linear_algebra.proofs.ResidueLaws.{same_residue, same_from_mod, mod_from_residue, residue-mul, values, add_comm, add-zero, mul_comm, one-mul, zero-mul}
use Rattle.linear_algebra.proofs.Differences.{add_cancel}
use Rattle.linear_algebra.proofs.Vectors.{plus_assoc, plus-zeros, zeros-plus}
use Rattle.linear_algebra.proofs.Rows.{row-map}
use Rattle.linear_algebra.proofs.Pivots.{lead_or_not}
use Rattle.linear_algebra.proofs.DenseLaws.{dense_at}

-- the sum of joined lists
pub sparse-append : (p : ℕ) (xs ys : List (ℕ × ℕ)) → sparse p (xs ++ ys) ≡ sparse p xs ⊞ sparse p ys
unfolding sparse
sparse-append p [] ys = sym (zeros-plus (sparse p ys))
sparse-append p (t ∷ xs) ys = rw (sparse-append p xs ys) (sym (plus_assoc (single p t.0 t.1) (sparse p xs) (sparse p ys)))

-- the sum of one term
pub sparse-one : (p : ℕ) (t : ℕ × ℕ) → sparse p (t ∷ []) ≡ single p t.0 t.1
unfolding sparse
sparse-one p t = plus-zeros (single p t.0 t.1)

-- the sum of the first i + 1 terms
pub sparse_more : (p : ℕ) (xs : List (ℕ × ℕ)) (i : ℕ) → i < length xs → sparse p (take (i + 1) xs) ≡ sparse p (take i xs)
    ⊞ single p (get_or xs i (0, 0)).0 (get_or xs i (0, 0)).1
sparse_more p xs i l = ap (sparse p) (take_more xs i (0, 0) l) ∙ sparse-append p (take i xs) (get_or xs i (0, 0) ∷ [])
    ∙ ap (λ v. sparse p (take i xs) ⊞ v) (sparse-one p (get_or xs i (0, 0)))

-- two terms at one place add their numbers
pub single-add : (p k a b : ℕ) → single p k a ⊞ single p k b ≡ single p k ((a + b) % p)
unfolding single
single-add p k a b = λ i q. at q (nat_eq q k) i
  where
    at : (q : ℕ) (t : Bool) → cond t (residue p a) (residue p 0) ⊕ cond t (residue p b) (residue p 0) ≡ cond t (residue p ((a + b) % p)) (residue p 0)
    at q true = same_residue (residue p a ⊕ residue p b) (residue p ((a + b) % p)) (simp values)
    at q false = same_residue (residue p 0 ⊕ residue p 0) (residue p 0) (simp values)

-- a term with the number 0 is 0
pub single-zero : (p k : ℕ) → single p k 0 ≡ zeros
unfolding single
single-zero p k = λ i q. at q (nat_eq q k) i
  where
    at : (q : ℕ) (t : Bool) → cond t (residue p 0) (residue p 0) ≡ residue p 0
    at q true = refl
    at q false = refl

-- a term is the residue of its number at its place, and 0 elsewhere
pub single_at : (p k a : ℕ) → single p k a k ≡ residue p a
unfolding single
single_at p k a = ap (λ t. cond t (residue p a) (residue p 0)) (eq-eqb k k refl)

-- and is 0 at the other places
pub single_elsewhere : (p k a i : ℕ) → k ≢ i → single p k a i ≡ residue p 0
unfolding single
single_elsewhere p k a i n = at (nat_eq i k) refl
  where
    at : (t : Bool) → nat_eq i k ≡ t → cond t (residue p a) (residue p 0) ≡ residue p 0
    at true e = absurd (n (sym (eqb-true i k e)))
    at false e = refl

-- a multiple of a term is the term of the product
pub scale-single : (p c k a b : ℕ) → b ≡ (c * a) % p → residue p c ⊡ single p k a ≡ single p k b
scale-single p c k a b e = λ i j. at j (ℕ_discrete k j) i
  where
    product : residue p c ⊗ residue p a ≡ residue p b
    product = residue-mul p c a ∙ same_from_mod p (c * a) b (sym (ap (λ n. n % p) e ∙ mod-mod (c * a) p))

    at : (j : ℕ) → Dec (k ≡ j) → residue p c ⊗ single p k a j ≡ single p k b j
    at j (yes same) =
        ap (λ r. residue p c ⊗ r) (ap (single p k a) (sym same) ∙ single_at p k a) ∙ product
        ∙ sym (single_at p k b) ∙ ap (single p k b) same
    at j (no other) =
        ap (λ r. residue p c ⊗ r) (single_elsewhere p k a j other) ∙ mul_comm (residue p c) (residue p 0) ∙ zero-mul (residue p c)
        ∙ sym (single_elsewhere p k b j other)

-- a times the unit vector is the single term
pub scale-unit : (p k a : ℕ) → residue p a ⊡ unit k ≡ single p k a
scale-unit p k a = λ i j. at j (ℕ_discrete k j) i
  where
    at : (j : ℕ) → Dec (k ≡ j) → residue p a ⊗ single p k 1 j ≡ single p k a j
    at j (yes same) =
        ap (λ r. residue p a ⊗ r) (ap (single p k 1) (sym same) ∙ single_at p k 1) ∙ mul_comm (residue p a) (residue p 1) ∙ one-mul (residue p a)
        ∙ sym (single_at p k a) ∙ ap (single p k a) same
    at j (no other) =
        ap (λ r. residue p a ⊗ r) (single_elsewhere p k 1 j other) ∙ mul_comm (residue p a) (residue p 0) ∙ zero-mul (residue p a)
        ∙ sym (single_elsewhere p k a j other)

-- the sum of no term, and of one term more
pub sparse_nil : (p : ℕ) → sparse p [] ≡ zeros
unfolding sparse
sparse_nil p = refl

-- the sum of one term more
pub sparse-cons : (p : ℕ) (t : ℕ × ℕ) (ts : List (ℕ × ℕ)) → sparse p (t ∷ ts) ≡ single p t.0 t.1 ⊞ sparse p ts
unfolding sparse
sparse-cons p t ts = refl

-- away from the places of its terms a sum is 0
pub sparse_elsewhere : (p : ℕ) (ts : List (ℕ × ℕ)) (k : ℕ) → ((j : ℕ) → j < length ts → (get_or ts j (0, 0)).0 ≢ k) → sparse p ts k ≡ residue p 0
unfolding sparse
sparse_elsewhere p [] k away = refl
sparse_elsewhere p (t ∷ ts) k away = rw (
  single_elsewhere p t.0 t.1 k (away 0 (omega arith)),
  sparse_elsewhere p ts k
      (λ j l. away (suc j) (omega arith)),
) (add-zero (residue p 0))

-- a sum that is not 0 at a place has a term there
pub has_term : (p : ℕ) (ts : List (ℕ × ℕ)) (q : ℕ) → sparse p ts q ≢ residue p 0 → (i : ℕ) × (i < length ts) × ((get_or ts i (0, 0)).0 ≡ q)
has_term p [] q some = absurd (some (ap (λ v. v q) (sparse_nil p)))
has_term p (t ∷ ts) q some = by_place (has_term p ts q) (ℕ_discrete t.0 q)
  where
    by_place : (sparse p ts q ≢ residue p 0 → (i : ℕ) × (i < length ts) × ((get_or ts i (0, 0)).0 ≡ q)) → Dec (t.0 ≡ q)
        → (i : ℕ) × (i < length (t ∷ ts)) × ((get_or (t ∷ ts) i (0, 0)).0 ≡ q)
    by_place rest (yes same) = (0, omega arith, same)
    by_place rest (no other) =
        let (i, u, e) = rest (λ z. some (ap (λ v. v q) (sparse-cons p t ts) ∙ ap (λ a. a ⊕ sparse p ts q) (single_elsewhere p t.0 t.1 q other)
        ∙ ap (λ a. residue p 0 ⊕ a) z ∙ add-zero (residue p 0))) in
        (suc i, omega arith, e)

-- where its greatest place is k, another place that is not 0 is that of a term before the last
pub before_last : (p k : ℕ) (ts : List (ℕ × ℕ)) → IsCombo ts → sparse p ts k ≢ residue p 0 → ((i : ℕ) → k < i → sparse p ts i ≡ residue p 0)
    → (q : ℕ) → q ≢ k → sparse p ts q ≢ residue p 0 → (i : ℕ) × (i + 1 < length ts) × ((get_or ts i (0, 0)).0 ≡ q)
before_last p k ts combo some beyond q apart here =
    let (i, u, e) = has_term p ts q here in
    let (m, w, f) = has_term p ts k some in
    (i, at i u e m w f (cases_lt (i + 1) (length ts)) (cases_lt m i), e)
  where
    at : (i : ℕ) → i < length ts → (get_or ts i (0, 0)).0 ≡ q → (m : ℕ) → m < length ts → (get_or ts m (0, 0)).0 ≡ k
        → (i + 1 < length ts) ⊎ (length ts ≤ i + 1) → (m < i) ⊎ (i ≤ m) → i + 1 < length ts
    at i u e m w f (inl l) any = l
    at i u e m w f (inr last) (inl before) =
        absurd (here (beyond q (let l : (get_or ts m (0, 0)).0 < (get_or ts i (0, 0)).0 = combo.rising m i before u in omega (arith, e, f))))
    at i u e m w f (inr last) (inr past) = absurd (apart (sym e ∙ ap (λ n. (get_or ts n (0, 0)).0) (let s : i ≡ m = omega arith in s) ∙ f))

-- terms with places below d are a vector of length d
pub EndsBefore-sparse : (p d : ℕ) (ts : List (ℕ × ℕ)) → All (λ t. t.0 < d) ts → EndsBefore d (sparse p ts)
EndsBefore-sparse p d ts below k l = sparse_elsewhere p ts k (λ j u e.
    let w : (get_or ts j (0, 0)).0 < d = All-get_or (λ t. t.0 < d) ts j (0, 0) u below in omega arith)

-- without its first term a list still rises and has no zero
IsCombo-tail : (t : ℕ × ℕ) (ts : List (ℕ × ℕ)) → IsCombo (t ∷ ts) → IsCombo ts
IsCombo-tail t ts c = record {
  rising = λ i j l u. c.rising (suc i) (suc j) (omega arith) (omega arith);
  nonzero =
      All-tail (λ t. 0 < t.1) t ts c.nonzero;
}

-- the first place is below the others
first_below : (t : ℕ × ℕ) (ts : List (ℕ × ℕ)) → IsCombo (t ∷ ts) → (j : ℕ) → j < length ts → t.0 < (get_or ts j (0, 0)).0
first_below t ts c j l = c.rising 0 (suc j) (omega arith) (omega arith)

-- at its first place, and before it
sparse_first : (p : ℕ) (t : ℕ × ℕ) (ts : List (ℕ × ℕ)) → IsCombo (t ∷ ts) → sparse p (t ∷ ts) t.0 ≡ residue p t.1
unfolding sparse
sparse_first p t ts c = rw (
  single_at p t.0 t.1,
  sparse_elsewhere p ts t.0
      (λ j l e. let w : t.0 < (get_or ts j (0, 0)).0 = first_below t ts c j l in omega arith),
) (add-zero (residue p t.1))

-- before its first place a rising list is 0
sparse_before : (p : ℕ) (t : ℕ × ℕ) (ts : List (ℕ × ℕ)) → IsCombo (t ∷ ts) → (k : ℕ) → k < t.0 → sparse p (t ∷ ts) k ≡ residue p 0
sparse_before p t ts c k l = sparse_elsewhere p (t ∷ ts) k away
  where
    away : (j : ℕ) → j < length (t ∷ ts) → (get_or (t ∷ ts) j (0, 0)).0 ≢ k
    away zero u e = omega arith
    away (suc j) u e = let w : t.0 < (get_or ts j (0, 0)).0 = first_below t ts c j (omega arith) in omega arith

-- at the place of a term a rising list has the residue of its number
pub sparse_at : (p : ℕ) (ts : List (ℕ × ℕ)) → IsCombo ts → (j : ℕ) → j < length ts
    → sparse p ts (get_or ts j (0, 0)).0 ≡ residue p (get_or ts j (0, 0)).1
sparse_at p [] c j l = absurd (omega arith)
sparse_at p (t ∷ ts) c zero l = sparse_first p t ts c
sparse_at p (t ∷ ts) c (suc j) l =
    let w : t.0 < (get_or ts j (0, 0)).0 = first_below t ts c j (omega arith) in
    ap (λ v. v (get_or ts j (0, 0)).0) (sparse-cons p t ts) ∙ ap (λ a. a ⊕ sparse p ts (get_or ts j (0, 0)).0)
    (single_elsewhere p t.0 t.1 (get_or ts j (0, 0)).0 (omega arith))
    ∙ add_comm (residue p 0) (sparse p ts (get_or ts j (0, 0)).0) ∙ add-zero (sparse p ts (get_or ts j (0, 0)).0)
    ∙ sparse_at p ts (IsCombo-tail t ts c) j (omega arith)

-- a residue from 1 to p - 1 is not 0
pub some_residue : (p a : ℕ) → 0 < a → a < p → residue p a ≢ residue p 0
some_residue p a l u e =
    let h : a % p ≡ 0 % p = mod_from_residue p a 0 e in
    let small : a % p ≡ a = mod-eq_of_lt u in
    let none : 0 % p ≡ 0 = zero-mod p in
    omega arith

-- equal sums with equal first terms have equal rests
rests_equal : (p : ℕ) → 0 < p → (s u w : Vector p) → s ⊞ u ≡ s ⊞ w → u ≡ w
rests_equal p positive s u w e = λ i k. add_cancel positive (u k) (w k) (s k) (add_comm (u k) (s k) ∙ ap (λ v. v k) e ∙ add_comm (s k) (w k)) i

-- a list with rising places and residues other than 0 is the only one for its vector
pub sparse-injective : (p : ℕ) (ts us : List (ℕ × ℕ)) → IsCombo ts → IsCombo us → All (λ t. t.1 < p) ts → All (λ t. t.1 < p) us
    → sparse p ts ≡ sparse p us → ts ≡ us
sparse-injective p [] [] c d a b e = refl
sparse-injective p [] (u ∷ us) c d a b e =
    absurd (some_residue p u.1 (All-head (λ t. 0 < t.1) u us d.nonzero) (All-head (λ t. t.1 < p) u us b)
    (sym (sparse_first p u us d) ∙ ap (λ v. v u.0) (sym e ∙ sparse_nil p)))
sparse-injective p (t ∷ ts) [] c d a b e =
    absurd (some_residue p t.1 (All-head (λ t. 0 < t.1) t ts c.nonzero) (All-head (λ t. t.1 < p) t ts a)
    (sym (sparse_first p t ts c) ∙ ap (λ v. v t.0) (e ∙ sparse_nil p)))
sparse-injective p (t ∷ ts) (u ∷ us) c d a b e = by_place (ℕ_discrete t.0 u.0) (sparse-injective p ts us)
  where
    t_some : residue p t.1 ≢ residue p 0
    t_some = some_residue p t.1 (All-head (λ t. 0 < t.1) t ts c.nonzero) (All-head (λ t. t.1 < p) t ts a)

    u_some : residue p u.1 ≢ residue p 0
    u_some = some_residue p u.1 (All-head (λ t. 0 < t.1) u us d.nonzero) (All-head (λ t. t.1 < p) u us b)

    apart : t.0 ≢ u.0 → (t.0 < u.0) ⊎ (u.0 ≤ t.0) → ⊥
    apart n (inl l) = t_some (sym (sparse_first p t ts c) ∙ ap (λ v. v t.0) e ∙ sparse_before p u us d t.0 l)
    apart n (inr l) = u_some (sym (sparse_first p u us d) ∙ ap (λ v. v u.0) (sym e) ∙ sparse_before p t ts c u.0 (omega arith))

    by_place : Dec (t.0 ≡ u.0) → (IsCombo ts → IsCombo us → All (λ t. t.1 < p) ts → All (λ t. t.1 < p) us → sparse p ts ≡ sparse p us → ts ≡ us)
        → t ∷ ts ≡ u ∷ us
    by_place (no n) smaller = absurd (apart n (cases_lt t.0 u.0))
    by_place (yes same) smaller =
        let values : residue p t.1 ≡ residue p u.1 = sym (sparse_first p t ts c) ∙ ap (λ v. v t.0) e ∙ ap (sparse p (u ∷ us)) same
        ∙ sparse_first p u us d in
        let low : t.1 < p = All-head (λ t. t.1 < p) t ts a in
        let low' : u.1 < p = All-head (λ t. t.1 < p) u us b in
        let number : t.1 ≡ u.1 = sym (mod-eq_of_lt low) ∙ mod_from_residue p t.1 u.1 values ∙ mod-eq_of_lt low' in
        let term : t ≡ u = λ i. (same i, number i) in
        let rest : sparse p ts ≡ sparse p us = rests_equal p (omega arith) (single p t.0 t.1) (sparse p ts) (sparse p us)
        (sym (sparse-cons p t ts) ∙ e ∙ sparse-cons p u us ∙ ap (λ q. single p q.0 q.1 ⊞ sparse p us) (sym term)) in
        cc (term, smaller (IsCombo-tail t ts c) (IsCombo-tail u us d) (All-tail (λ t. t.1 < p) t ts a) (All-tail (λ t. t.1 < p) u us b) rest)

-- row j of the lists as vectors
pub row-sparse_rows : (p : ℕ) (rows : List (List (ℕ × ℕ))) (j : ℕ) → j < length rows → row (sparse_rows p rows) j ≡ sparse p (get_or rows j [])
row-sparse_rows p rows j l = row-map (sparse p) rows j [] l

-- a rising list is the vector of a list of numbers where the residues at its places are those of its numbers and the others are 0
pub sparse_from_dense : (p : ℕ) (ts : List (ℕ × ℕ)) (xs : List ℕ) → IsCombo ts
    → ((j : ℕ) → j < length ts → residue p (get_or xs (get_or ts j (0, 0)).0 0) ≡ residue p (get_or ts j (0, 0)).1)
    → ((k : ℕ) → ((j : ℕ) → j < length ts → (get_or ts j (0, 0)).0 ≢ k) → residue p (get_or xs k 0) ≡ residue p 0) → sparse p ts ≡ dense p xs
sparse_from_dense p ts xs c terms others = λ i k. at k (lead_or_not (λ j. (get_or ts j (0, 0)).0) (length ts) k) i
  where
    at : (k : ℕ) → ((j : ℕ) × (j < length ts) × ((get_or ts j (0, 0)).0 ≡ k)) ⊎ ((j : ℕ) → j < length ts → (get_or ts j (0, 0)).0 ≢ k)
        → sparse p ts k ≡ dense p xs k
    at k (inl (j, l, e)) = subst (λ m. sparse p ts m ≡ dense p xs m) e
        (sparse_at p ts c j l ∙ sym (terms j l) ∙ sym (dense_at p xs (get_or ts j (0, 0)).0))
    at k (inr away) = sparse_elsewhere p ts k away ∙ sym (others k away) ∙ sym (dense_at p xs k)

-- and where it is that vector, they are
pub residues_from_sparse : (p : ℕ) (ts : List (ℕ × ℕ)) (xs : List ℕ) → IsCombo ts → sparse p ts ≡ dense p xs → (j : ℕ) → j < length ts
    → residue p (get_or xs (get_or ts j (0, 0)).0 0) ≡ residue p (get_or ts j (0, 0)).1
residues_from_sparse p ts xs c e j l = sym (dense_at p xs (get_or ts j (0, 0)).0) ∙ sym (ap (λ v. v (get_or ts j (0, 0)).0) e) ∙ sparse_at p ts c j l

-- and the others are 0
pub zeros_from_sparse : (p : ℕ) (ts : List (ℕ × ℕ)) (xs : List ℕ) → sparse p ts ≡ dense p xs → (k : ℕ)
    → ((j : ℕ) → j < length ts → (get_or ts j (0, 0)).0 ≢ k) → residue p (get_or xs k 0) ≡ residue p 0
zeros_from_sparse p ts xs e k away = sym (dense_at p xs k) ∙ sym (ap (λ v. v k) e) ∙ sparse_elsewhere p ts k away

-- a list that is a at place k and 0 elsewhere is one term
pub dense-single : (p k a : ℕ) (xs : List ℕ) → get_or xs k 0 ≡ a → ((i : ℕ) → i ≢ k → get_or xs i 0 ≡ 0) → dense p xs ≡ single p k a
dense-single p k a xs here others = λ i j. at j (ℕ_discrete j k) i
  where
    at : (j : ℕ) → Dec (j ≡ k) → dense p xs j ≡ single p k a j
    at j (yes e) = subst (λ m. dense p xs m ≡ single p k a m) (sym e) (dense_at p xs k ∙ ap (residue p) here ∙ sym (single_at p k a))
    at j (no n) = dense_at p xs j ∙ ap (residue p) (others j n) ∙ sym (single_elsewhere p k a j (λ e. n (sym e)))

-- the greatest place of a list of residues
pub dense-greatest : (p k : ℕ) (xs : List ℕ) → 0 < get_or xs k 0 → get_or xs k 0 < p → ((i : ℕ) → k < i → get_or xs i 0 ≡ 0)
    → IsGreatestPlace (dense p xs) k
dense-greatest p k xs some low others = record {
  at = λ e. some_residue p (get_or xs k 0) some low (sym (dense_at p xs k) ∙ e);
  beyond =
      λ i l. dense_at p xs i ∙ ap (residue p) (others i l);
}

-- and of a rising list of terms: its last place
pub sparse-greatest : (p : ℕ) (ts : List (ℕ × ℕ)) → IsCombo ts → All (λ t. t.1 < p) ts → (j : ℕ) → j + 1 ≡ length ts
    → IsGreatestPlace (sparse p ts) (get_or ts j (0, 0)).0
sparse-greatest p ts c low j last = record {
  at = λ e. some_residue p (get_or ts j (0, 0)).1 (All-get_or (λ t. 0 < t.1) ts j (0, 0) (omega arith) c.nonzero)
      (All-get_or (λ t. t.1 < p) ts j (0, 0) (omega arith) low) (sym (sparse_at p ts c j (omega arith)) ∙ e);
  beyond = λ i l. sparse_elsewhere p ts i (λ q u e. past i l q u e (ℕ_discrete q j));
}
  where
    past : (i : ℕ) → (get_or ts j (0, 0)).0 < i → (q : ℕ) → q < length ts → (get_or ts q (0, 0)).0 ≡ i → Dec (q ≡ j) → ⊥
    past i l q u e (yes same) = let w : (get_or ts q (0, 0)).0 ≡ (get_or ts j (0, 0)).0 = ap (λ m. (get_or ts m (0, 0)).0) same in omega arith
    past i l q u e (no other) = let w : (get_or ts q (0, 0)).0 < (get_or ts j (0, 0)).0 = c.rising q j (omega arith) (omega arith) in omega arith

-- Sums of 64 bits as vectors of residues.
use Rattle.std.proofs.Common.{◌≡◌, ◌<◌, ◌≤◌, ◌+◌, ◌*◌, ◌%◌, ℕ, zero, suc, List, [], ◌∷◌, ◌++◌, length, get_or, get_or-set_same, get_or-set_other, set, take, map, refl, sym, ◌∙◌, ap, subst, arith}
use Rattle.std.proofs.Math.Decide.{ℕ_discrete}
use Rattle.std.proofs.Math.Nat.{mod-mod, mul-le-mul}
use Rattle.std.proofs.lemmas.List.{get_or-map, get_or_default, length-map, length-set}
use Rattle.linear_algebra.specs.Residue.{residue}
use Rattle.linear_algebra.specs.Vector.{Vector, ◌⊞◌, ◌⊡◌, combination}
use Rattle.linear_algebra.specs.Dense.{dense}
use Rattle.linear_algebra.specs.Sparse.{sparse, single, sparse_rows}
use Rattle.linear_algebra.proofs.DenseLaws.{dense_from_residues}
use Rattle.linear_algebra.proofs.SparseLaws.{sparse-append, sparse-one}
use Rattle.linear_algebra.proofs.Vectors.{plus_assoc, combination-plus}
use Rattle.field_table.proofs.Gathering.{IsListing, listing_none, listing_some, listing_zero, sparse-listing}
use Rattle.field_table.proofs.Lists.{dense_more}
use Rattle.quotient_coords.proofs.SymbolRows.{combination-single, combined_none}

-- numbers that are congruent stand for one vector
dense_congruent : (p k v w : ℕ) (xs : List ℕ) → k < length xs → v % p ≡ w % p → dense p (set xs k v) ≡ dense p (set xs k w)
dense_congruent p k v w xs within same =
    dense_from_residues p (set xs k v) (set xs k w) (length-set xs k v ∙ sym (length-set xs k w)) (λ j l. at j (ℕ_discrete j k))
  where
    at : (j : ℕ) → Dec (j ≡ k) → get_or (set xs k v) j 0 % p ≡ get_or (set xs k w) j 0 % p
    at j (yes is) = ap (λ i. get_or (set xs k v) i 0 % p) is ∙ ap (λ x. x % p) (get_or-set_same xs k v 0 within) ∙ same
        ∙ sym (ap (λ i. get_or (set xs k w) i 0 % p) is ∙ ap (λ x. x % p) (get_or-set_same xs k w 0 within))
    at j (no other) = ap (λ x. x % p) (get_or-set_other xs k j v 0 other ∙ sym (get_or-set_other xs k j w 0 other))

-- one more term of a sum that is added to a list, by a number that is congruent
pub dense_more_congruent : (p c k b v : ℕ) (xs start : List ℕ) (terms : List (ℕ × ℕ)) (i : ℕ) → i < length terms
    → (get_or terms i (0, 0)).0 ≡ k → (get_or terms i (0, 0)).1 ≡ b → k < length xs → v % p ≡ (get_or xs k 0 + c * b) % p
    → dense p xs ≡ dense p start ⊞ residue p c ⊡ sparse p (take i terms)
    → dense p (set xs k v) ≡ dense p start ⊞ residue p c ⊡ sparse p (take (i + 1) terms)
dense_more_congruent p c k b v xs start terms i l place number within e sum =
    dense_congruent p k v ((get_or xs k 0 + c * b) % p) xs within (e ∙ sym (mod-mod (get_or xs k 0 + c * b) p))
    ∙ dense_more p c k b ((get_or xs k 0 + c * b) % p) xs start terms i l place number within refl sum

-- the remainders of a list stand for its vector
pub dense_remainders : (p : ℕ) (xs : List ℕ) → dense p (map (λ x. x % p) xs) ≡ dense p xs
dense_remainders p xs = dense_from_residues p (map (λ x. x % p) xs) xs (length-map xs (λ x. x % p))
    (λ k l. ap (λ x. x % p) (get_or-map (λ x. x % p) xs k 0 0 (omega (arith, l, length-map xs (λ x. x % p)))) ∙ mod-mod (get_or xs k 0) p)

-- a product of small numbers is small
pub product_few : (a b m n : ℕ) → a ≤ m → b ≤ n → a * b ≤ m * n
product_few a b m n l u = mul-le-mul l u

-- the rows of the first k counts are added, each times its count
pub record AreCounted (p : ℕ) (rows : List (List (ℕ × ℕ))) (counts : List ℕ) (k : ℕ) (old sums : List ℕ) : Type 0 where
  pub terms : List (ℕ × ℕ)
  pub listing : IsListing counts k terms
  pub sum : dense p sums ≡ dense p old ⊞ combination (sparse p terms) (sparse_rows p rows)

pub counted_none : (p : ℕ) (rows : List (List (ℕ × ℕ))) (counts old : List ℕ) → AreCounted p rows counts 0 old old
counted_none p rows counts old = record { terms = []; listing = listing_none counts; sum = combined_none p rows (dense p old) }

pub counted_zero : (p : ℕ) (rows : List (List (ℕ × ℕ))) (counts : List ℕ) (k : ℕ) (old sums : List ℕ) → get_or counts k 0 ≡ 0
    → AreCounted p rows counts k old sums → AreCounted p rows counts (k + 1) old sums
counted_zero p rows counts k old sums none h = record { terms = h.terms; listing = listing_zero counts k h.terms h.listing none; sum = h.sum }

pub counted_some : (p : ℕ) (rows : List (List (ℕ × ℕ))) (counts : List ℕ) (k : ℕ) (r : List (ℕ × ℕ)) (old sums new : List ℕ) → k < length rows
    → r ≡ get_or rows k r → (get_or counts k 0 ≡ 0 → ⊥) → dense p new ≡ dense p sums ⊞ residue p (get_or counts k 0) ⊡ sparse p r
    → AreCounted p rows counts k old sums → AreCounted p rows counts (k + 1) old new
counted_some p rows counts k r old sums new within is some step h =
    let a : ℕ = get_or counts k 0 in
    let before : Vector p = combination (sparse p h.terms) (sparse_rows p rows) in
    let here : Vector p = combination (single p k a) (sparse_rows p rows) in
    record {
      terms = h.terms ++ (k, a) ∷ [];
      listing = listing_some counts k h.terms h.listing some;
      sum = step ∙ ap (λ w. dense p sums ⊞ w) (ap (λ ts. residue p a ⊡ sparse p ts) (is ∙ get_or_default rows k r [] within)
          ∙ sym (combination-single p rows k a within)) ∙ ap (λ w. w ⊞ here) h.sum
          ∙ plus_assoc (dense p old) before here
          ∙ ap (λ w. dense p old ⊞ w) (sym (ap (λ c. combination c (sparse_rows p rows)) (sparse-append p h.terms ((k, a) ∷ [])
          ∙ ap (λ w. sparse p h.terms ⊞ w) (sparse-one p (k, a)))
          ∙ combination-plus (sparse p h.terms) (single p k a) (sparse_rows p rows)));
    }

pub counted_all : (p : ℕ) (rows : List (List (ℕ × ℕ))) (counts : List ℕ) (k : ℕ) (old sums : List ℕ) → length counts ≤ k
    → AreCounted p rows counts k old sums → dense p sums ≡ dense p old ⊞ combination (dense p counts) (sparse_rows p rows)
counted_all p rows counts k old sums whole h = h.sum
    ∙ ap (λ c. dense p old ⊞ combination c (sparse_rows p rows)) (sparse-listing p counts k h.terms whole h.listing)

-- every list of numbers has a listing
pub record HasListing (xs : List ℕ) (n : ℕ) : Type 0 where
  pub terms : List (ℕ × ℕ)
  pub is : IsListing xs n terms

pub has_listing : (xs : List ℕ) (n : ℕ) → HasListing xs n
has_listing xs zero = record { terms = []; is = listing_none xs }
has_listing xs (suc n) = subst (HasListing xs) (let e : n + 1 ≡ suc n = omega arith in e) (more (has_listing xs n) (ℕ_discrete (get_or xs n 0) 0))
  where
    more : HasListing xs n → Dec (get_or xs n 0 ≡ 0) → HasListing xs (n + 1)
    more h (yes none) = record { terms = h.terms; is = listing_zero xs n h.terms h.is none }
    more h (no some) = record { terms = h.terms ++ (n, get_or xs n 0) ∷ []; is = listing_some xs n h.terms h.is some }

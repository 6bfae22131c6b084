-- What a loop over entries says of vectors.
use Rattle.std.proofs.Common.{◌≡◌, ◌+◌, ◌*◌, ◌%◌, ◌<◌, ◌≤◌, ℕ, List, [], length, replicate, refl, get_or, ◌∙◌, sym, ap, arith, inl, inr, ◌⊎◌, All}
use Rattle.std.proofs.lemmas.List.Elements.{All-from_get_or, All-get_or}
use Rattle.std.proofs.Math.Nat.{mod-mod, mul-zero, mod-eq_of_lt}
use Rattle.std.proofs.lemmas.Bool.{cases_lt}
use Rattle.std.proofs.lemmas.List.{get_or_past, get_or-replicate, length-replicate}
use Rattle.linear_algebra.specs.Residue.{residue, ◌⊕◌, ◌⊗◌}
use Rattle.linear_algebra.specs.Vector.{◌⊞◌, ◌⊡◌, zeros, EndsBefore}
use Rattle.linear_algebra.specs.Span.{row}
use Rattle.linear_algebra.specs.Dense.{dense, dense_rows}
use Rattle.linear_algebra.proofs.ResidueLaws.{same_residue, same_from_mod, mod_from_residue, values, value-residue}
use Rattle.linear_algebra.proofs.Rows.{row-map}
use Rattle.std.proofs.lemmas.Grind.{same_number_lists}

-- a list whose entries are x + c y modulo p is that sum of vectors
pub dense_plus : (p c : ℕ) (xs ys zs : List ℕ) → length xs ≡ length ys → length zs ≡ length xs
    → ((k : ℕ) → k < length ys → get_or zs k 0 ≡ (get_or xs k 0 + c * get_or ys k 0) % p)
    → dense p zs ≡ dense p xs ⊞ residue p c ⊡ dense p ys
unfolding dense
dense_plus p c xs ys zs e f each = λ i k. same_residue (residue p (get_or zs k 0))
    (residue p (get_or xs k 0) ⊕ residue p c ⊗ residue p (get_or ys k 0)) (simp values (at k (cases_lt k (length ys)))) i
  where
    at : (k : ℕ) → (k < length ys) ⊎ (length ys ≤ k) → get_or zs k 0 % p ≡ (get_or xs k 0 + c * get_or ys k 0) % p
    at k (inl l) = ap (λ n. n % p) (each k l) ∙ mod-mod (get_or xs k 0 + c * get_or ys k 0) p
    at k (inr l) = rw (get_or_past xs k 0 (omega arith), get_or_past ys k 0 l, get_or_past zs k 0 (omega arith), mul-zero c)

-- entries that are remainders by p are below p
pub below_from_entries : (p : ℕ) (zs : List ℕ) (f : ℕ → ℕ) → 0 < p → ((k : ℕ) → k < length zs → get_or zs k 0 ≡ f k % p) → All (λ x. x < p) zs
below_from_entries p zs f positive each = All-from_get_or (λ x. x < p) zs 0 (λ k l. omega (arith, each k l))

-- lists of residues that are one vector and have one length are one list
pub dense-injective : (p : ℕ) (xs ys : List ℕ) → length xs ≡ length ys → All (λ x. x < p) xs → All (λ x. x < p) ys → dense p xs ≡ dense p ys → xs ≡ ys
unfolding dense
dense-injective p xs ys l a b e = same_number_lists xs ys l (λ k u.
    sym (mod-eq_of_lt (All-get_or (λ x. x < p) xs k 0 u a)) ∙ sym (value-residue p (get_or xs k 0)) ∙ ap (λ v. (v k).value) e
    ∙ value-residue p (get_or ys k 0)
    ∙ mod-eq_of_lt (All-get_or (λ x. x < p) ys k 0 (omega arith) b))

-- a list of length d is a vector of length d
pub EndsBefore-dense : (p : ℕ) (xs : List ℕ) → EndsBefore (length xs) (dense p xs)
unfolding dense
EndsBefore-dense p xs k l = ap (residue p) (get_or_past xs k 0 l)

-- the entry at a place
pub dense_at : (p : ℕ) (xs : List ℕ) (k : ℕ) → dense p xs k ≡ residue p (get_or xs k 0)
unfolding dense
dense_at p xs k = refl

-- two lists of one length are one vector exactly where their numbers have the same residues
pub dense_from_residues : (p : ℕ) (xs ys : List ℕ) → length xs ≡ length ys → ((k : ℕ) → k < length xs → get_or xs k 0 % p ≡ get_or ys k 0 % p)
    → dense p xs ≡ dense p ys
unfolding dense
dense_from_residues p xs ys l each = λ i k. same_from_mod p (get_or xs k 0) (get_or ys k 0) (at k (cases_lt k (length xs))) i
  where
    at : (k : ℕ) → (k < length xs) ⊎ (length xs ≤ k) → get_or xs k 0 % p ≡ get_or ys k 0 % p
    at k (inl u) = each k u
    at k (inr u) = rw (get_or_past xs k 0 u, get_or_past ys k 0 (omega arith)) refl

-- and lists that are one vector have the same residues
pub residues_from_dense : (p : ℕ) (xs ys : List ℕ) → dense p xs ≡ dense p ys → (k : ℕ) → get_or xs k 0 % p ≡ get_or ys k 0 % p
unfolding dense
residues_from_dense p xs ys e k = mod_from_residue p (get_or xs k 0) (get_or ys k 0) (ap (λ v. v k) e)

-- a list of zeros is the vector 0
pub dense-zeros : (p : ℕ) (xs : List ℕ) → ((k : ℕ) → k < length xs → get_or xs k 0 ≡ 0) → dense p xs ≡ zeros
unfolding dense
dense-zeros p xs each = λ i k. ap (residue p) (at k (cases_lt k (length xs))) i
  where
    at : (k : ℕ) → (k < length xs) ⊎ (length xs ≤ k) → get_or xs k 0 ≡ 0
    at k (inl u) = each k u
    at k (inr u) = get_or_past xs k 0 u

-- so a list of zeros is 0
pub dense-replicate : (p n : ℕ) → dense p (replicate n 0) ≡ zeros
dense-replicate p n = dense-zeros p (replicate n 0) (λ k l. get_or-replicate n k 0 0 (omega (arith, length-replicate {A = ℕ} n 0)))

-- row j of the lists as vectors
pub row-dense_rows : (p : ℕ) (rows : List (List ℕ)) (j : ℕ) → j < length rows → row (dense_rows p rows) j ≡ dense p (get_or rows j [])
row-dense_rows p rows j l = row-map (dense p) rows j [] l

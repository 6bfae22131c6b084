-- What loops over lists of residues say of vectors and of sums of products.
use Rattle.std.proofs.Common.{◌≡◌, ◌<◌, ◌≤◌, ◌+◌, ◌*◌, ◌%◌, ℕ, List, length, get_or, get_or-set_same, get_or-set_other, set, take, ◌∙◌, sym, ap, subst, arith, inl, inr, ◌⊎◌}
use Rattle.std.proofs.Math.Nat.{mod-mod, mul-zero, mul-le-mul}
use Rattle.std.proofs.lemmas.Bool.{cases_lt}
use Rattle.std.proofs.lemmas.List.{get_or_past}
use Rattle.std.proofs.lemmas.List.FromFn.{sum_by-map-range_with_len_more}
use Rattle.std.proofs.Math.Decide.{ℕ_discrete}
use Rattle.linear_algebra.specs.Residue.{residue, ◌⊕◌, ◌⊗◌}
use Rattle.linear_algebra.specs.Vector.{◌⊞◌, ◌⊡◌}
use Rattle.linear_algebra.specs.Dense.{dense}
use Rattle.linear_algebra.specs.Sparse.{sparse, single}
use Rattle.linear_algebra.proofs.ResidueLaws.{same_residue, values}
use Rattle.linear_algebra.proofs.SparseLaws.{single_at, single_elsewhere, sparse_more, sparse_nil}
use Rattle.linear_algebra.proofs.Vectors.{plus_assoc, plus-zeros, scale-plus, scale-zeros}
use Rattle.field_table.specs.InnerProduct.{inner_product_before}

-- a list whose entries are those of another times c is c times that vector
pub dense_scaled : (p c : ℕ) (xs zs : List ℕ) → length zs ≡ length xs
    → ((k : ℕ) → k < length zs → get_or zs k 0 ≡ (c * get_or xs k 0) % p)
    → dense p zs ≡ residue p c ⊡ dense p xs
unfolding dense
dense_scaled p c xs zs e each = λ i k. same_residue (residue p (get_or zs k 0)) (residue p c ⊗ residue p (get_or xs k 0))
    (simp values (at k (cases_lt k (length zs)))) i
  where
    at : (k : ℕ) → (k < length zs) ⊎ (length zs ≤ k) → get_or zs k 0 % p ≡ (c * get_or xs k 0) % p
    at k (inl l) = ap (λ n. n % p) (each k l) ∙ mod-mod (c * get_or xs k 0) p
    at k (inr l) = rw (get_or_past xs k 0 (omega arith), get_or_past zs k 0 l, mul-zero c)

-- one place more in a sum of products
pub inner_product_before_more : (xs ys : List ℕ) (n : ℕ) → inner_product_before xs ys (n + 1)
    ≡ inner_product_before xs ys n + get_or xs n 0 * get_or ys n 0
inner_product_before_more xs ys n = sum_by-map-range_with_len_more (λ x. x) (λ k. get_or xs k 0 * get_or ys k 0) 0 n n (omega arith)

-- a product of numbers below n is below its square
pub product_within : (n a b : ℕ) → a < n → b < n → a * b ≤ n * n
product_within n a b l u = mul-le-mul (omega arith) (omega arith)

-- what a kernel of characteristic q says, at the equal number p
pub sum_at : (p q c : ℕ) (acc row new : List ℕ) → dense q new ≡ dense q acc ⊞ residue q c ⊡ dense q row → p ≡ q
    → dense p new ≡ dense p acc ⊞ residue p c ⊡ dense p row
sum_at p q c acc row new e same = subst (λ n. dense n new ≡ dense n acc ⊞ residue n c ⊡ dense n row) (sym same) e

pub product_at : (p q c : ℕ) (acc new : List ℕ) → dense q new ≡ residue q c ⊡ dense q acc → p ≡ q → dense p new ≡ residue p c ⊡ dense p acc
product_at p q c acc new e same = subst (λ n. dense n new ≡ residue n c ⊡ dense n acc) (sym same) e

pub sparse_sum_at : (p q c : ℕ) (acc new : List ℕ) (terms : List (ℕ × ℕ)) → dense q new ≡ dense q acc ⊞ residue q c ⊡ sparse q terms → p ≡ q
    → dense p new ≡ dense p acc ⊞ residue p c ⊡ sparse p terms
sparse_sum_at p q c acc new terms e same = subst (λ n. dense n new ≡ dense n acc ⊞ residue n c ⊡ sparse n terms) (sym same) e

-- one number of a list that c times another is added to
pub dense_set : (p c k b v : ℕ) (xs : List ℕ) → k < length xs → v ≡ (get_or xs k 0 + c * b) % p
    → dense p (set xs k v) ≡ dense p xs ⊞ residue p c ⊡ single p k b
unfolding dense single
dense_set p c k b v xs l e = λ i q. same_residue (residue p (get_or (set xs k v) q 0)) (residue p (get_or xs q 0) ⊕ residue p c ⊗ single p k b q)
    (at q (ℕ_discrete q k)) i
  where
    at : (q : ℕ) → Dec (q ≡ k) → (residue p (get_or (set xs k v) q 0)).value ≡ (residue p (get_or xs q 0) ⊕ residue p c ⊗ single p k b q).value
    at q (yes same) = subst (λ m. (residue p (get_or (set xs k v) m 0)).value ≡ (residue p (get_or xs m 0) ⊕ residue p c ⊗ single p k b m).value)
        (sym same) (rw (single_at p k b, get_or-set_same xs k v 0 l) (simp values (ap (λ n. n % p) e ∙ mod-mod (get_or xs k 0 + c * b) p)))
    at q (no other) = rw (single_elsewhere p k b q (λ s. other (sym s)), get_or-set_other xs k q v 0 other)
        (simp values (ap (λ n. n % p) (omega arith)))

-- one more term of a sum that is added to a list
pub dense_more : (p c k b v : ℕ) (xs start : List ℕ) (terms : List (ℕ × ℕ)) (i : ℕ) → i < length terms → (get_or terms i (0, 0)).0 ≡ k
    → (get_or terms i (0, 0)).1 ≡ b → k < length xs → v ≡ (get_or xs k 0 + c * b) % p
    → dense p xs ≡ dense p start ⊞ residue p c ⊡ sparse p (take i terms)
    → dense p (set xs k v) ≡ dense p start ⊞ residue p c ⊡ sparse p (take (i + 1) terms)
dense_more p c k b v xs start terms i l place number within e sum =
    dense_set p c k b v xs within e
    ∙ ap (λ w. w ⊞ residue p c ⊡ single p k b) sum
    ∙ plus_assoc (dense p start) (residue p c ⊡ sparse p (take i terms)) (residue p c ⊡ single p k b)
    ∙ ap (λ w. dense p start ⊞ w) (sym (scale-plus (residue p c) (sparse p (take i terms)) (single p k b))
    ∙ ap (λ w. residue p c ⊡ w) (sym (sparse_more p terms i l ∙ ap (λ m. sparse p (take i terms) ⊞ single p m (get_or terms i (0, 0)).1) place
    ∙ ap (λ m. sparse p (take i terms) ⊞ single p k m) number)))

-- no term adds nothing
pub dense_start : (p c : ℕ) (start : List ℕ) (terms : List (ℕ × ℕ)) → dense p start ≡ dense p start ⊞ residue p c ⊡ sparse p (take 0 terms)
dense_start p c start terms = sym (ap (λ w. dense p start ⊞ residue p c ⊡ w) (sparse_nil p) ∙ ap (λ w. dense p start ⊞ w) (scale-zeros (residue p c))
    ∙ plus-zeros (dense p start))

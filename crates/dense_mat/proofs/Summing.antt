-- Sums of products that are not reduced at each step.
use Rattle.std.proofs.Common.{◌≡◌, ◌⊎◌, ◌+◌, ◌*◌, ◌%◌, ◌<◌, ◌≤◌, ◌^◌, ◌∙◌, ℕ, List, length, get_or, ap, inl, inr, arith, All}
use Rattle.std.proofs.Math.Nat.{mod-mod, mul-zero}
use Rattle.std.proofs.lemmas.Bool.{cases_lt}
use Rattle.std.proofs.lemmas.List.{get_or_past}
use Rattle.std.proofs.lemmas.List.Elements.{All-from_get_or, All-get_or}
use Rattle.field_table.proofs.Lists.{product_within}
use Rattle.dense_mat.specs.Accumulation.{HasRoom}
use Rattle.linear_algebra.specs.Residue.{residue, ◌⊕◌, ◌⊗◌}
use Rattle.linear_algebra.specs.Vector.{◌⊞◌, ◌⊡◌}
use Rattle.linear_algebra.specs.Dense.{dense}
use Rattle.linear_algebra.proofs.DenseLaws.{dense_from_residues}
use Rattle.linear_algebra.proofs.ResidueLaws.{same_residue, values}

-- a list whose numbers are x + c y is that sum of vectors
pub sums_plus : (p c : ℕ) (xs ys zs : List ℕ) → length xs ≡ length ys → length zs ≡ length xs
    → ((k : ℕ) → k < length ys → get_or zs k 0 ≡ get_or xs k 0 + c * get_or ys k 0) → dense p zs ≡ dense p xs ⊞ residue p c ⊡ dense p ys
unfolding dense
sums_plus p c xs ys zs e f each = λ i k. same_residue (residue p (get_or zs k 0))
    (residue p (get_or xs k 0) ⊕ residue p c ⊗ residue p (get_or ys k 0)) (simp values (at k (cases_lt k (length ys)))) i
  where
    at : (k : ℕ) → (k < length ys) ⊎ (length ys ≤ k) → get_or zs k 0 % p ≡ (get_or xs k 0 + c * get_or ys k 0) % p
    at k (inl l) = ap (λ n. n % p) (each k l)
    at k (inr l) = rw (get_or_past xs k 0 (omega arith), get_or_past ys k 0 l, get_or_past zs k 0 (omega arith), mul-zero c)

-- they grow by a product of two numbers below a limit at most
pub sums_grow : (limit c b : ℕ) (xs ys zs : List ℕ) → c < limit → All (λ y. y < limit) ys → length xs ≡ length ys → length zs ≡ length xs
    → ((k : ℕ) → k < length ys → get_or zs k 0 ≡ get_or xs k 0 + c * get_or ys k 0) → All (λ x. x ≤ b) xs
    → All (λ x. x ≤ b + limit * limit) zs
sums_grow limit c b xs ys zs less below e f each bounded = All-from_get_or (λ x. x ≤ b + limit * limit) zs 0 (λ k l.
    let small = product_within limit c (get_or ys k 0) less (All-get_or (λ y. y < limit) ys k 0 (omega arith) below) in
    let old = All-get_or (λ x. x ≤ b) xs k 0 (omega arith) bounded in
    omega (arith, small, old, each k (omega arith)))

-- numbers that are remainders by p have the same residues
pub remainders_same : (p : ℕ) (xs zs : List ℕ) → length zs ≡ length xs → ((k : ℕ) → k < length xs → get_or zs k 0 ≡ get_or xs k 0 % p)
    → dense p zs ≡ dense p xs
remainders_same p xs zs e each = dense_from_residues p zs xs e (λ k l. ap (λ n. n % p) (each k (omega arith)) ∙ mod-mod (get_or xs k 0) p)

-- residues are within the first room
pub first_room : (p : ℕ) (xs : List ℕ) → p < 2 ^ 24 → All (λ x. x < p) xs → HasRoom 0 xs
first_room p xs small below = λ k d l. omega (arith, small, below k d l)

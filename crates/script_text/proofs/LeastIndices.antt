-- The index from a number on is the least number from there on that is coprime to the level.
use Rattle.std.proofs.Common.{◌≡◌, ℕ, ◌+◌, ◌*◌, ◌/◌, ◌%◌, ◌<◌, ◌≤◌, eq-eqb, nat_eq, ap, ◌∙◌, arith, inl, inr}
use Rattle.std.proofs.Math.Nat.{mod-lt, mod-add-div, add-mul-mod_self_left}
use Rattle.std.proofs.lemmas.Bool.{cases_eq, cases_lt, eqb-true}
use Rattle.p1_normal.specs.Units.{gcd}
use Rattle.p1_normal.proofs.Units.{gcd_from_IsUnit}
use Rattle.script_text.specs.Draws.{index_from}
use Rattle.script_text.proofs.DrawnFits.{IsFirst, first_passing}

-- a number that is coprime to N, no further from k than N
record IsNear (N k : ℕ) : Type 0 where
  number : ℕ
  least : k ≤ number
  most : number ≤ k + N
  coprime : gcd number N ≡ 1

-- one more than a multiple of N is coprime to N
past_multiple : (N t : ℕ) → gcd (1 + N * t) N ≡ 1
past_multiple N t = gcd_from_IsUnit N (1 + N * t) (record { inverse = 1; gives_one = ap (λ x. x % N) once ∙ add-mul-mod_self_left 1 N t })
  where
    once : (1 + N * t) * 1 ≡ 1 + N * t
    once = omega arith

coprime-near : (N k : ℕ) → 0 < N → IsNear N k
coprime-near N k some = elim (cases_eq (k % N) 0) [
  | inl none ↦ record {
    number = 1 + N * (k / N);
    least = omega (arith, mod-add-div k N, none);
    most = omega (arith, mod-add-div k N, none);
    coprime = past_multiple N (k / N);
  }
  | inr rest ↦ record {
    number = 1 + N * (k / N + 1);
    least = omega (arith, mod-add-div k N, mod-lt k some);
    most = omega (arith, mod-add-div k N, rest);
    coprime = past_multiple N (k / N + 1);
  }
]

-- the index is at most each such number
index-first : (N k n : ℕ) → k ≤ n → n < k + (N + 1) → gcd n N ≡ 1 → IsFirst (λ m. nat_eq (gcd m N) 1) k n (index_from N k)
index-first N k n least most one = first_passing (λ m. nat_eq (gcd m N) 1) k (N + 1) n 1 least most (eq-eqb (gcd n N) 1 one)

near-first : (N k : ℕ) → 0 < N → IsFirst (λ m. nat_eq (gcd m N) 1) k (k + N) (index_from N k)
near-first N k some =
    let near = coprime-near N k some in
    let first = index-first N k near.number near.least (omega (arith, near.most)) near.coprime in
    record { least = first.least; most = omega (arith, first.most, near.most); passes = first.passes }

pub index-from : (N k : ℕ) → 0 < N → k ≤ index_from N k
index-from N k some = (near-first N k some).least

pub index-coprime : (N k : ℕ) → 0 < N → gcd (index_from N k) N ≡ 1
index-coprime N k some = eqb-true _ _ (near-first N k some).passes

pub index-near : (N k : ℕ) → 0 < N → index_from N k ≤ k + N
index-near N k some = (near-first N k some).most

pub index-least : (N k n : ℕ) → 0 < N → k ≤ n → gcd n N ≡ 1 → index_from N k ≤ n
index-least N k n some least one = elim (cases_lt n (k + (N + 1))) [
  | inl within ↦ (index-first N k n least within one).most
  | inr far ↦ omega (arith, (near-first N k some).most)
]

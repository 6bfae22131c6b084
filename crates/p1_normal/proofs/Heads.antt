-- The first part of a symbol is the least of its multiples by units.
use Rattle.std.proofs.Common.{◌≡◌, ◌+◌, ◌*◌, ◌%◌, ◌<◌, ◌≤◌, ℕ, ◌∙◌, ap, inl, inr, arith}
use Rattle.std.proofs.Math.Nat.{mul-le-mul_right, mod-eq_of_lt}
use Rattle.std.proofs.lemmas.Bool.{cases_lt}
use Rattle.p1_normal.specs.declared.point.Point.{Point}
use Rattle.p1_normal.specs.Points.{pair_multiple, SamePoint, normal_form, IsBelow}
use Rattle.p1_normal.specs.Tables.{place, IsHead}
use Rattle.p1_normal.proofs.SamePoints.{SamePoint_sym, SamePoint-pair_multiple}
use Rattle.p1_normal.proofs.NormalForms.{normal_form-le, IsBelow-pair_multiple}

-- of two pairs the one that is not after the other is not in a later row
pub row-le : (N : ℕ) (p q : Point) → p.v < N → q.v < N → place N p ≤ place N q → p.u ≤ q.u
row-le N p q g h le = elim (cases_lt q.u p.u) [
  | inl less ↦ let e : (q.u + 1) * N ≤ p.u * N = mul-le-mul_right N (omega arith) in absurd (omega arith)
  | inr more ↦ more
]

head-le : (N : ℕ) (p q : Point) → IsBelow N q → IsHead N p.u → SamePoint N p q → p.u ≤ q.u
head-le N p q below head same = let e : (same.factor * p.u) % N ≡ q.u = same.first ∙ mod-eq_of_lt below.first in omega
    (arith, head.least same.factor same.unit)

-- two names of one point have one head
pub head_same : (N : ℕ) (p q : Point) → IsBelow N p → IsBelow N q → IsHead N p.u → IsHead N q.u → SamePoint N p q → p.u ≡ q.u
head_same N p q below_p below_q head_p head_q same = omega (
  arith,
  head-le N p q below_q head_p same,
  head-le N q p below_p head_q
      (SamePoint_sym same),
)

-- a pair that is its own normal form begins with a head
pub head_of_form : (N : ℕ) (p : Point) → 0 < N → IsBelow N p → normal_form N p ≡ p → IsHead N p.u
head_of_form N p some below own = record {
  least = λ s h.
      let le : place N (normal_form N p) ≤ place N (pair_multiple N s p) =
      normal_form-le N p (pair_multiple N s p) some (SamePoint-pair_multiple N s p h) (IsBelow-pair_multiple N s p some) in
      row-le N p (pair_multiple N s p) below.second (IsBelow-pair_multiple N s p some).second (omega (arith, le, ap (place N) own));
}

-- Identities of integers: each integer is a difference of naturals, and a polynomial identity of such differences is one of naturals.
use Rattle.std.proofs.Common.{◌≡◌, ◌+◌, ◌*◌, ◌-◌, ◌/◌, ◌%◌, ◌<◌, ℕ, suc, sym, ◌∙◌, ap, subst, inl, inr, arith}
use Rattle.std.specs.Prelude.{ℤ, pos, negsuc, neg_ℤ, ◌+ℤ◌, ◌-ℤ◌, ◌*ℤ◌}
use Rattle.std.proofs.Math.Nat.{div-add-mod, mod-lt}
use Rattle.std.proofs.lemmas.Int.{ints}
use Rattle.std.proofs.lemmas.Bool.{cases_lt}

-- p - q
unfoldable pub gap : ℕ → ℕ → ℤ
gap p q = pos p -ℤ pos q

pub gap_pos : (p q k : ℕ) → p ≡ q + k → gap p q ≡ pos k
unfolding gap
gap_pos p q k e = omega (arith, ints, e)

pub gap_neg : (p q k : ℕ) → p + suc k ≡ q → gap p q ≡ negsuc k
unfolding gap
gap_neg p q k e = omega (arith, ints, e)

pub gap_same : (p q r s : ℕ) → p + s ≡ r + q → gap p q ≡ gap r s
unfolding gap
gap_same p q r s e = omega (arith, ints, e)

-- and equal differences give equal sums
pub gap_out : (p q r s : ℕ) → gap p q ≡ gap r s → p + s ≡ r + q
unfolding gap
gap_out p q r s e = omega (arith, ints, e)

pub gap_add : (p q r s : ℕ) → gap p q +ℤ gap r s ≡ gap (p + r) (q + s)
unfolding gap
gap_add p q r s = omega (arith, ints)

pub gap_neg_of : (p q : ℕ) → neg_ℤ (gap p q) ≡ gap q p
unfolding gap
gap_neg_of p q = omega (arith, ints)

-- an integer is a natural or its opposite
pub data Sign (p q : ℕ) : Type 0 where
  above : (k : ℕ) → p ≡ q + k → Sign p q
  below : (k : ℕ) → p + suc k ≡ q → Sign p q

pub sign : (p q : ℕ) → Sign p q
sign p q = elim (cases_lt p q) [
  | inl l ↦ below (q - suc p) (omega arith)
  | inr l ↦ above (p - q) (omega arith)
]

gap_minus : (p q k : ℕ) → p + k ≡ q → gap p q ≡ neg_ℤ (pos k)
unfolding gap
gap_minus p q k e = omega (arith, ints, e)

pub gap_mul : (p q r s : ℕ) → gap p q *ℤ gap r s ≡ gap (p * r + q * s) (p * s + q * r)
gap_mul p q r s = by_signs (sign p q) (sign r s)
  where
    result : (i j : ℤ) → gap p q ≡ i → gap r s ≡ j → i *ℤ j ≡ gap (p * r + q * s) (p * s + q * r) →
        gap p q *ℤ gap r s ≡ gap (p * r + q * s) (p * s + q * r)
    result i j e f h = ap (λ x. x *ℤ gap r s) e ∙ ap (λ y. i *ℤ y) f ∙ h

    by_signs : Sign p q → Sign r s → gap p q *ℤ gap r s ≡ gap (p * r + q * s) (p * s + q * r)
    by_signs (above i e) (above j f) = result (pos i) (pos j) (gap_pos p q i e) (gap_pos r s j f)
        (sym (gap_pos (p * r + q * s) (p * s + q * r) (i * j) (rw (e, f) (omega arith))))
    by_signs (above i e) (below j f) = result (pos i) (negsuc j) (gap_pos p q i e) (gap_neg r s j f)
        (sym (gap_minus (p * r + q * s) (p * s + q * r) (i * suc j) (rw (e, ← f) (omega arith))))
    by_signs (below i e) (above j f) = result (negsuc i) (pos j) (gap_neg p q i e) (gap_pos r s j f)
        (sym (gap_minus (p * r + q * s) (p * s + q * r) (suc i * j) (rw (← e, f) (omega arith))))
    by_signs (below i e) (below j f) = result (negsuc i) (negsuc j) (gap_neg p q i e) (gap_neg r s j f)
        (sym (gap_pos (p * r + q * s) (p * s + q * r) (suc i * suc j) (rw (← e, ← f) (omega arith))))

-- the laws that bring a polynomial of differences to one difference; an identity is then
--   rw (is_gap x, is_gap y, ..) (simp gaps (gap_same _ _ _ _ (omega arith)))
pub ruleset gaps = (gap_add, gap_neg_of, gap_mul)

-- each integer is a difference
pub up : ℤ → ℕ
up (pos n) = n
up (negsuc n) = 0

pub down : ℤ → ℕ
down (pos n) = 0
down (negsuc n) = suc n

pub is_gap : (z : ℤ) → z ≡ gap (up z) (down z)
unfolding gap up down
is_gap (pos n) = omega (arith, ints)
is_gap (negsuc n) = omega (arith, ints)

-- what holds of all differences holds of all integers
pub from_gaps : (P : ℤ → Type 0) → ((p q : ℕ) → P (gap p q)) → (z : ℤ) → P z
from_gaps P h z = subst P (sym (is_gap z)) (h (up z) (down z))

pub pos_gap : (k : ℕ) → pos k ≡ gap k 0
unfolding gap
pos_gap k = omega (arith, ints)

pub neg_gap : (k : ℕ) → negsuc k ≡ gap 0 (suc k)
unfolding gap
neg_gap k = omega (arith, ints)

pub minus_gap : (k : ℕ) → neg_ℤ (pos k) ≡ gap 0 k
unfolding gap
minus_gap k = omega (arith, ints)

-- ---- the remainder of an integer by a positive number
pub record Division (z : ℤ) (d : ℕ) : Type 0 where
  pub quotient : ℤ
  pub rest : ℕ
  pub is : z +ℤ quotient *ℤ pos d ≡ pos rest
  pub below : rest < d

pub division : (z : ℤ) (d : ℕ) → 0 < d → Division z d
division (pos k) d some = record {
  quotient = neg_ℤ (pos (k / d));
  rest = k % d;
  is = law k d (k / d) (k % d) (div-add-mod k d);
  below = mod-lt k some;
}
  where
    law : (k d q r : ℕ) → d * q + r ≡ k → pos k +ℤ neg_ℤ (pos q) *ℤ pos d ≡ pos r
    law k d q r e = rw (pos_gap k, pos_gap d, minus_gap q, pos_gap r) (simp gaps (gap_same _ _ _ _ (omega (arith, e))))
division (negsuc k) d some =
    let low : k % d < d = mod-lt k some in
    record {
      quotient = pos (k / d + 1);
      rest = d - 1 - k % d;
      is = law k d (k / d + 1) (d - 1 - k % d) (whole (k / d) (k % d) (div-add-mod k d) low);
      below = omega (arith, low);
    }
  where
    whole : (q r : ℕ) → d * q + r ≡ k → r < d → d * (q + 1) ≡ suc k + (d - 1 - r)
    whole q r e l = omega (arith, e, l)

    law : (k d q r : ℕ) → d * q ≡ suc k + r → negsuc k +ℤ pos q *ℤ pos d ≡ pos r
    law k d q r e = omega (arith, ints, e)

-- A step of a chain acts on symbols as a permutation.
use Rattle.std.proofs.Common.{◌≡◌, ◌+◌, ◌*◌, ◌-◌, ◌<◌, inl, inr, ◌≤◌, ℕ, zero, suc, length, refl, sym, ◌∙◌, ap, subst, arith}
use Rattle.std.specs.Prelude.{ℤ, pos, negsuc, neg_ℤ, ◌+ℤ◌, ◌-ℤ◌, ◌*ℤ◌}
use Rattle.std.proofs.Math.IntN.{*ℤ-zero}
use Rattle.std.proofs.lemmas.Bool.{cases_lt}
use Rattle.std.proofs.lemmas.Int.{ints}
use Rattle.p1_normal.specs.declared.matrix.Matrix.{Matrix}
use Rattle.p1_normal.specs.Units.{gcd}
use Rattle.linear_algebra.specs.Integers.{residue_of}
use Rattle.p1_normal.specs.Points.{symbols, symbol_at, number, normal_form}
use Rattle.p1_normal.specs.Actions.{matrix, product, determinant, IsInvertible, image_number, matrix_s, matrix_u}
use Rattle.p1_normal.proofs.Actions.{IsUnit-minus_one, image_by, image_is}
use Rattle.p1_normal.proofs.Moves.{image_number-image_number, image_number-lt, image_number-scalar, invertible_s, IsUnit-plus_one}
use Rattle.p1_normal.proofs.Numbers.{level_positive}
use Rattle.heilbronn_sets.specs.Merel.{IsMerel}
use Rattle.heilbronn_sets.proofs.Entries.{AreEntries}
use Rattle.heilbronn_sets.proofs.Members.{member_entries}
use Rattle.heilbronn_chains.specs.Chains.{Follows}
use Rattle.heilbronn_chains.specs.Turns.{StepsOn, turn, shear}
use Rattle.heilbronn_chains.proofs.Steps.{Follows-after, Follows_unique, ceiling}
use Rattle.heilbronn_chains.proofs.Runs.{Follows-last}

-- ---- the matrix that follows is a product
turned_entries : (n a b c d : ℕ) (k : Matrix) → 0 < n → AreEntries n a b c d → 0 < c → Follows n (matrix (pos a) (pos b) (pos c) (pos d)) k →
    StepsOn (matrix (pos a) (pos b) (pos c) (pos d)) k
turned_entries n a b c d k some h more f =
    let v = ceiling c d more in
    from v.quotient v.rest v.is v.below
  where
    from : (q y : ℕ) → y + d ≡ q * c → y < c → StepsOn (matrix (pos a) (pos b) (pos c) (pos d)) k
    from zero y e l = absurd (omega (arith, e, h.right))
    from (suc q) y e l =
        let x = suc q * a - b in
        let whole : x + b ≡ suc q * a = omega (arith, h.left) in
        let same : k ≡ matrix (pos x) (pos a) (pos y) (pos c) = Follows_unique n (matrix (pos a) (pos b) (pos c) (pos d)) k
        (matrix (pos x) (pos a) (pos y) (pos c)) some f (Follows-after n a b c d (suc q) x y h whole e l) in
        record {
          quotient = suc q;
          covers = omega (arith, ints, e);
          least = omega (arith, ints, e, l);
          is = same ∙ (λ t. matrix (upper x whole t) (pos a) (lower y e t) (pos c));
          turned = same ∙ (λ t. matrix (first x whole t) (second a b t) (third y e t) (second c d t));
        }
      where
        first : (x : ℕ) → x + b ≡ suc q * a → pos x ≡ pos a *ℤ pos (suc q) +ℤ pos b *ℤ negsuc 0
        first x w = omega (arith, ints, w)

        upper : (x : ℕ) → x + b ≡ suc q * a → pos x ≡ (pos (suc q) *ℤ pos a) -ℤ pos b
        upper x w = omega (arith, ints, w)

        lower : (y : ℕ) → y + d ≡ suc q * c → pos y ≡ (pos (suc q) *ℤ pos c) -ℤ pos d
        lower y e = omega (arith, ints, e)

        second : (u v : ℕ) → pos u ≡ pos u *ℤ pos 1 +ℤ pos v *ℤ pos 0
        second u v = omega (arith, ints)

        third : (y : ℕ) → y + d ≡ suc q * c → pos y ≡ pos c *ℤ pos (suc q) +ℤ pos d *ℤ negsuc 0
        third y e = omega (arith, ints, e)

pub steps_on : (n : ℕ) (m k : Matrix) → 0 < n → IsMerel n m → Follows n m k → StepsOn m k
steps_on n m k some h f =
    let e = member_entries n m h in
    let g : Follows n (matrix (pos e.a) (pos e.b) (pos e.c) (pos e.d)) k = subst (λ w. Follows n w k) e.is f in
    subst (λ w. StepsOn w k) (sym e.is) (turned_entries n e.a e.b e.c e.d k some e.entries
    (positive e.c (λ z. Follows-last n (matrix (pos e.a) (pos e.b) (pos e.c) (pos e.d)) k (ap pos z) g)) g)
  where
    positive : (c : ℕ) → (c ≡ 0 → ⊥) → 0 < c
    positive zero z = absurd (z refl)
    positive (suc c) z = omega arith

-- ---- turns and shears act on the numbers of symbols
-- a matrix of determinant 1
pub invertible_one : (N : ℕ) (m : Matrix) → determinant m ≡ pos 1 → IsInvertible N m
invertible_one N m e = subst (λ z. gcd (residue_of N z) N ≡ 1) (sym e) (invertible_s N)

pub determinant-turn : (q : ℤ) → determinant (turn q) ≡ pos 1
determinant-turn q = ap (λ w. w -ℤ pos 1 *ℤ negsuc 0) (*ℤ-zero q)

determinant-shear : (z : ℤ) → determinant (shear z) ≡ pos 1
determinant-shear z = ap (λ w. pos 1 -ℤ w) (*ℤ-zero z)

-- a shear and S are the turn, up to the sign
shear_s : (q : ℤ) → product (shear (neg_ℤ q)) matrix_s ≡ product (turn q) (matrix (negsuc 0) (pos 0) (pos 0) (negsuc 0))
shear_s q = λ t. matrix (a q t) (b q t) (pos 1) (pos 0)
  where
    a : (q : ℤ) → pos 1 *ℤ pos 0 +ℤ neg_ℤ q *ℤ pos 1 ≡ q *ℤ negsuc 0 +ℤ pos 1 *ℤ pos 0
    a q = omega (arith, ints)

    b : (q : ℤ) → pos 1 *ℤ negsuc 0 +ℤ neg_ℤ q *ℤ pos 0 ≡ q *ℤ pos 0 +ℤ pos 1 *ℤ negsuc 0
    b q = omega (arith, ints)

pub turn_is : (N j : ℕ) (q : ℤ) → j < length (symbols N) → image_number N j (turn q) ≡ image_number N (image_number N j (shear (neg_ℤ q))) matrix_s
turn_is zero j q within = absurd (let some = level_positive zero j within in omega (arith, some))
turn_is (suc n) j q within =
    sym (image_number-scalar n (image_number (suc n) j (turn q)) (negsuc 0)
    (image_number-lt (suc n) j (turn q) within (invertible_one (suc n) (turn q) (determinant-turn q))) (IsUnit-minus_one n))
    ∙ image_number-image_number n j (turn q) (matrix (negsuc 0) (pos 0) (pos 0) (negsuc 0)) within
    (invertible_one (suc n) (turn q) (determinant-turn q))
    ∙ ap (image_number (suc n) j) (sym (shear_s q))
    ∙ sym (image_number-image_number n j (shear (neg_ℤ q)) matrix_s within (invertible_one (suc n) (shear (neg_ℤ q)) (determinant-shear (neg_ℤ q))))

-- the number of a symbol by the member that follows, from that by the member before
pub step_moves : (N n j : ℕ) (m k : Matrix) → 0 < n → j < length (symbols N) → IsInvertible N m → IsMerel n m → (f : Follows n m k) →
    (s : StepsOn m k) × (image_number N j k ≡ image_number N (image_number N j m) (turn (pos s.quotient)))
step_moves zero n j m k some within unit h f = absurd (let l = level_positive zero j within in omega (arith, l))
step_moves (suc N) n j m k some within unit h f =
    let s = steps_on n m k some h f in
    (s, ap (image_number (suc N) j) s.turned ∙ sym (image_number-image_number N j m (turn (pos s.quotient)) within unit))

-- shears by their remainders modulo N, one after the other
pub shear_none : (N j : ℕ) → j < length (symbols N) → image_number N j (shear (pos 0)) ≡ j
shear_none zero j within = absurd (let l = level_positive zero j within in omega (arith, l))
shear_none (suc n) j within = image_number-scalar n j (pos 1) within (IsUnit-plus_one (suc n))

pub shear_more : (N j k : ℕ) → j < length (symbols N) → image_number N j (shear (pos (k + 1)))
    ≡ image_number N (image_number N j (shear (pos k))) matrix_u
shear_more zero j k within = absurd (let l = level_positive zero j within in omega (arith, l))
shear_more (suc n) j k within = ap (image_number (suc n) j) (power k)
    ∙ sym (image_number-image_number n j (shear (pos k)) matrix_u within (invertible_one (suc n) (shear (pos k)) (determinant-shear (pos k))))
  where
    power : (k : ℕ) → shear (pos (k + 1)) ≡ product (shear (pos k)) matrix_u
    power k = λ t. matrix (a k t) (b k t) (pos 0) (pos 1)
      where
        a : (k : ℕ) → pos 1 ≡ pos 1 *ℤ pos 1 +ℤ pos k *ℤ pos 0
        a k = omega (arith, ints)

        b : (k : ℕ) → pos (k + 1) ≡ pos 1 *ℤ pos 1 +ℤ pos k *ℤ pos 1
        b k = omega (arith, ints)

pub shear_residue : (N j : ℕ) (z w : ℤ) → residue_of N z ≡ residue_of N w → j < length (symbols N) →
    image_number N j (shear z) ≡ image_number N j (shear w)
unfolding image_number
shear_residue zero j z w e within = absurd (let l = level_positive zero j within in omega (arith, l))
shear_residue (suc n) j z w e within =
    let p = symbol_at (suc n) j in
    ap (λ x. number (suc n) (normal_form (suc n) x))
    (image_is n p (shear z) ∙ ap (λ r. image_by (suc n) (residue_of (suc n) (pos 1)) r (residue_of (suc n) (pos 0)) (residue_of (suc n) (pos 1)) p) e
    ∙ sym (image_is n p (shear w)))

-- the least quotient is one
pub quotient_unique : (q r c d : ℕ) → d ≤ q * c → q * c < d + c → d ≤ r * c → r * c < d + c → q ≡ r
quotient_unique q r c d low high under over = elim (cases_lt q r) [
  | inl less ↦ absurd (apart q r less low over)
  | inr more ↦ elim (cases_lt r q) [
    | inl less ↦ absurd (apart r q less under high)
    | inr same ↦ omega arith
  ]
]
  where
    apart : (q r : ℕ) → q < r → d ≤ q * c → r * c < d + c → ⊥
    apart q r l reaches within =
        let k = r - (q + 1) in
        let e : r ≡ q + 1 + k = omega arith in
        let f : r * c ≡ (q + 1 + k) * c = ap (λ z. z * c) e in
        omega (arith, f, reaches, within)

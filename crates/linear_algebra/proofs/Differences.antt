-- Differences: -a is p - 1 times a, so identities with differences are identities of sums and products.
use Rattle.std.proofs.Common.{◌≡◌, ◌+◌, ◌-◌, ◌*◌, ◌%◌, ◌<◌, ℕ, List, refl, sym, ◌∙◌, ap, arith}
use Rattle.std.proofs.Math.Nat.{mul-mod_right, zero-mod, mod-eq_of_lt}
use Rattle.linear_algebra.specs.Residue.{Residue, residue, ◌⊕◌, ◌⊗◌, opposite, ◌⊖◌}
use Rattle.linear_algebra.specs.Vector.{Vector, ◌⊞◌, ◌⊡◌, zeros, combination, minus}
use Rattle.linear_algebra.proofs.ResidueLaws
use Rattle.linear_algebra.proofs.Vectors.{combination-plus, combination-scale}

-- equal sums with one term in common
pub add_cancel : {p : ℕ} → 0 < p → (x y a : Residue p) → x ⊕ a ≡ y ⊕ a → x ≡ y
add_cancel positive x y a e =
    sym (ResidueLaws.add-zero x) ∙ ap (λ z. x ⊕ z) (sym (ResidueLaws.add-opposite positive a)) ∙ sym (ResidueLaws.add_assoc x a (opposite a))
    ∙ ap (λ z. z ⊕ opposite a) e ∙ ResidueLaws.add_assoc y a (opposite a) ∙ ap (λ z. y ⊕ z) (ResidueLaws.add-opposite positive a)
    ∙ ResidueLaws.add-zero y

-- the opposite is p - 1 times the residue
pub opposite-times : {p : ℕ} → 0 < p → (a : Residue p) → opposite a ≡ residue p (p - 1) ⊗ a
opposite-times {p} positive a = add_cancel positive (opposite a) (residue p (p - 1) ⊗ a) a
    (ResidueLaws.add_comm (opposite a) a ∙ ResidueLaws.add-opposite positive a ∙ sym whole)
  where
    times : (m n : ℕ) → 0 < m → (m - 1) * n + n ≡ m * n
    times m n l = let e : (m - 1 + 1) * n ≡ m * n = ap (λ k. k * n) (let f : m - 1 + 1 ≡ m = omega arith in f) in spread (m - 1) e
      where
        spread : (u : ℕ) → (u + 1) * n ≡ m * n → u * n + n ≡ m * n
        spread u e = omega arith

    whole : (residue p (p - 1) ⊗ a) ⊕ a ≡ residue p 0
    whole = ResidueLaws.same_residue ((residue p (p - 1) ⊗ a) ⊕ a) (residue p 0)
        (simp ResidueLaws.values (ap (λ n. n % p) (times p a.value positive) ∙ mul-mod_right p a.value ∙ sym (zero-mod p)))

-- a difference less a multiple
pub sub-add : {p : ℕ} → 0 < p → (x y z : Residue p) → x ⊖ (y ⊕ z) ≡ (x ⊖ y) ⊕ opposite z
unfolding ◌⊖◌
sub-add {p} positive x y z = rw (opposite-times positive (y ⊕ z), opposite-times positive y, opposite-times positive z) (plain (p - 1))
  where
    plain : (m : ℕ) → x ⊕ residue p m ⊗ (y ⊕ z) ≡ (x ⊕ residue p m ⊗ y) ⊕ residue p m ⊗ z
    plain m = ResidueLaws.same_residue (x ⊕ residue p m ⊗ (y ⊕ z)) ((x ⊕ residue p m ⊗ y) ⊕ residue p m ⊗ z)
        (simp ResidueLaws.values (ap (λ n. n % p) (omega arith)))

-- a residue less itself
pub sub_self : {p : ℕ} → 0 < p → (x : Residue p) → x ⊖ x ≡ residue p 0
unfolding ◌⊖◌
sub_self positive x = ResidueLaws.add-opposite positive x

-- a difference is a sum with p - 1 times what is taken
pub sub-times : {p : ℕ} → 0 < p → (x y : Residue p) → x ⊖ y ≡ x ⊕ residue p (p - 1) ⊗ y
unfolding ◌⊖◌
sub-times positive x y = ap (λ z. x ⊕ z) (opposite-times positive y)

-- what is taken and added again
pub sub_and_add : {p : ℕ} → 0 < p → (x y : Residue p) → (x ⊖ y) ⊕ y ≡ x
unfolding ◌⊖◌
sub_and_add positive x y = ResidueLaws.add_assoc x (opposite y) y ∙ ap (λ z. x ⊕ z)
    (ResidueLaws.add_comm (opposite y) y ∙ ResidueLaws.add-opposite positive y) ∙ ResidueLaws.add-zero x

-- what is added and taken again
pub add_and_sub : {p : ℕ} → 0 < p → (x y : Residue p) → (x ⊕ y) ⊖ y ≡ x
add_and_sub positive x y = add_cancel positive ((x ⊕ y) ⊖ y) x y (sub_and_add positive (x ⊕ y) y)

-- taking 0 changes nothing
pub sub-zero : {p : ℕ} → 0 < p → (x : Residue p) → x ⊖ residue p 0 ≡ x
sub-zero {p} positive x = add_cancel positive (x ⊖ residue p 0) x (residue p 0) (sub_and_add positive x (residue p 0) ∙ sym (ResidueLaws.add-zero x))

-- residues whose difference is 0 are equal
pub sub_none : {p : ℕ} → 0 < p → (x y : Residue p) → x ⊖ y ≡ residue p 0 → x ≡ y
sub_none {p} positive x y e = sym (sub_and_add positive x y) ∙ ap (λ z. z ⊕ y) e ∙ ResidueLaws.add_comm (residue p 0) y ∙ ResidueLaws.add-zero y

-- differences of neighbours add up
pub sub_chain : {p : ℕ} → 0 < p → (x y z : Residue p) → (x ⊖ y) ⊕ (y ⊖ z) ≡ x ⊖ z
sub_chain positive x y z = add_cancel positive ((x ⊖ y) ⊕ (y ⊖ z)) (x ⊖ z) z
    (ResidueLaws.add_assoc (x ⊖ y) (y ⊖ z) z ∙ ap (λ w. (x ⊖ y) ⊕ w) (sub_and_add positive y z) ∙ sub_and_add positive x y
    ∙ sym (sub_and_add positive x z))

-- the difference the other way round
pub sub_flip : {p : ℕ} → 0 < p → (x y : Residue p) → y ⊖ x ≡ residue p (p - 1) ⊗ (x ⊖ y)
sub_flip {p} positive x y = add_cancel positive (y ⊖ x) (residue p (p - 1) ⊗ (x ⊖ y)) (x ⊖ y)
    (sub_chain positive y x y ∙ sub_self positive y ∙ sym (ap (λ z. z ⊕ (x ⊖ y)) (sym (opposite-times positive (x ⊖ y)))
    ∙ ResidueLaws.add_comm (opposite (x ⊖ y)) (x ⊖ y) ∙ ResidueLaws.add-opposite positive (x ⊖ y)))

-- what is taken twice comes back
pub sub_twice : {p : ℕ} → 0 < p → (x y : Residue p) → x ⊖ (x ⊖ y) ≡ y
sub_twice positive x y = add_cancel positive (x ⊖ (x ⊖ y)) y (x ⊖ y) (sub_and_add positive x (x ⊖ y)
    ∙ sym (ResidueLaws.add_comm y (x ⊖ y) ∙ sub_and_add positive x y))

-- equal sums, with their terms moved across
pub sub_across : {p : ℕ} → 0 < p → (x a y b : Residue p) → x ⊕ a ≡ y ⊕ b → x ⊖ y ≡ b ⊖ a
sub_across positive x a y b e = add_cancel positive (x ⊖ y) (b ⊖ a) (y ⊕ a)
    (sym (ResidueLaws.add_assoc (x ⊖ y) y a) ∙ ap (λ z. z ⊕ a) (sub_and_add positive x y) ∙ e ∙ ResidueLaws.add_comm y b
    ∙ sym (ap (λ z. (b ⊖ a) ⊕ z) (ResidueLaws.add_comm y a) ∙ sym (ResidueLaws.add_assoc (b ⊖ a) a y) ∙ ap (λ z. z ⊕ y) (sub_and_add positive b a)))

-- the opposite of a product
pub opposite-mul : {p : ℕ} → 0 < p → (a b : Residue p) → opposite (a ⊗ b) ≡ opposite a ⊗ b
opposite-mul {p} positive a b = opposite-times positive (a ⊗ b) ∙ sym (ResidueLaws.mul_assoc (residue p (p - 1)) a b)
    ∙ ap (λ c. c ⊗ b) (sym (opposite-times positive a))

-- the opposite of 0
pub opposite-zero : {p : ℕ} → 0 < p → opposite (residue p 0) ≡ residue p 0
opposite-zero {p} positive = opposite-times positive (residue p 0) ∙ ResidueLaws.mul_comm (residue p (p - 1)) (residue p 0)
    ∙ ResidueLaws.zero-mul (residue p (p - 1))

-- the opposite of a sum
pub opposite-add : {p : ℕ} → 0 < p → (a b : Residue p) → opposite (a ⊕ b) ≡ opposite a ⊕ opposite b
opposite-add {p} positive a b = opposite-times positive (a ⊕ b) ∙ ResidueLaws.mul-add (residue p (p - 1)) a b
    ∙ sym (ap (λ x. x ⊕ opposite b) (opposite-times positive a) ∙ ap (λ x. residue p (p - 1) ⊗ a ⊕ x) (opposite-times positive b))

-- what is taken from 0
pub zero-sub : {p : ℕ} (a : Residue p) → residue p 0 ⊖ a ≡ opposite a
unfolding ◌⊖◌
zero-sub a = ResidueLaws.zero-add (opposite a)

-- the opposite of a residue below p, as code computes it
pub opposite-residue : (p c : ℕ) → c < p → opposite (residue p c) ≡ residue p (p - c)
opposite-residue p c l = ResidueLaws.same_residue (opposite (residue p c)) (residue p (p - c))
    (simp (ResidueLaws.values, ResidueLaws.value-opposite) (rw (mod-eq_of_lt l) refl))

-- the difference of two sums
pub add-sub-add : {p : ℕ} → 0 < p → (a b c d : Residue p) → (a ⊕ b) ⊖ (c ⊕ d) ≡ (a ⊖ c) ⊕ (b ⊖ d)
add-sub-add {p} positive a b c d = rw (sub-times positive (a ⊕ b) (c ⊕ d), sub-times positive a c, sub-times positive b d) (plain (p - 1))
  where
    plain : (m : ℕ) → (a ⊕ b) ⊕ residue p m ⊗ (c ⊕ d) ≡ (a ⊕ residue p m ⊗ c) ⊕ (b ⊕ residue p m ⊗ d)
    plain m = ResidueLaws.same_residue ((a ⊕ b) ⊕ residue p m ⊗ (c ⊕ d)) ((a ⊕ residue p m ⊗ c) ⊕ (b ⊕ residue p m ⊗ d))
        (simp ResidueLaws.values (ap (λ n. n % p) (omega arith)))

-- a multiple of a difference
pub mul-sub : {p : ℕ} → 0 < p → (a x y : Residue p) → a ⊗ (x ⊖ y) ≡ (a ⊗ x) ⊖ (a ⊗ y)
mul-sub {p} positive a x y = rw (sub-times positive x y, sub-times positive (a ⊗ x) (a ⊗ y)) (plain (p - 1))
  where
    plain : (m : ℕ) → a ⊗ (x ⊕ residue p m ⊗ y) ≡ (a ⊗ x) ⊕ residue p m ⊗ (a ⊗ y)
    plain m = ResidueLaws.same_residue (a ⊗ (x ⊕ residue p m ⊗ y)) ((a ⊗ x) ⊕ residue p m ⊗ (a ⊗ y))
        (simp ResidueLaws.values (ap (λ n. n % p) (omega arith)))

-- a difference of vectors is a sum with p - 1 times what is taken
pub minus-times : {p : ℕ} → 0 < p → (v w : Vector p) → minus v w ≡ v ⊞ (residue p (p - 1) ⊡ w)
minus-times positive v w = λ i k. sub-times positive (v k) (w k) i

-- a vector less itself
pub minus_self : {p : ℕ} → 0 < p → (v : Vector p) → minus v v ≡ zeros
minus_self positive v = λ i k. sub_self positive (v k) i

-- what is taken and added again
pub minus_and_plus : {p : ℕ} → 0 < p → (v w : Vector p) → minus v w ⊞ w ≡ v
minus_and_plus positive v w = λ i k. sub_and_add positive (v k) (w k) i

-- what is added and taken again
pub plus_and_minus : {p : ℕ} → 0 < p → (v w : Vector p) → minus (v ⊞ w) w ≡ v
plus_and_minus positive v w = λ i k. add_and_sub positive (v k) (w k) i

-- taking 0 changes nothing
pub minus-zeros : {p : ℕ} → 0 < p → (v : Vector p) → minus v zeros ≡ v
minus-zeros positive v = λ i k. sub-zero positive (v k) i

-- vectors whose difference is 0 are equal
pub minus_none : {p : ℕ} → 0 < p → (v w : Vector p) → minus v w ≡ zeros → v ≡ w
minus_none positive v w e = λ i k. sub_none positive (v k) (w k) (ap (λ u. u k) e) i

-- differences of neighbours add up
pub minus_chain : {p : ℕ} → 0 < p → (u v w : Vector p) → minus u v ⊞ minus v w ≡ minus u w
minus_chain positive u v w = λ i k. sub_chain positive (u k) (v k) (w k) i

-- the difference the other way round
pub minus_flip : {p : ℕ} → 0 < p → (v w : Vector p) → minus w v ≡ residue p (p - 1) ⊡ minus v w
minus_flip positive v w = λ i k. sub_flip positive (v k) (w k) i

-- equal sums, with their terms moved across
pub minus_across : {p : ℕ} → 0 < p → (v a w b : Vector p) → v ⊞ a ≡ w ⊞ b → minus v w ≡ minus b a
minus_across positive v a w b e = λ i k. sub_across positive (v k) (a k) (w k) (b k) (ap (λ u. u k) e) i

-- what is taken twice comes back
pub minus_twice : {p : ℕ} → 0 < p → (v w : Vector p) → minus v (minus v w) ≡ w
minus_twice positive v w = λ i k. sub_twice positive (v k) (w k) i

-- a difference less a multiple
pub minus-plus_scaled : {p : ℕ} → 0 < p → (v w r : Vector p) (a : Residue p) → minus v (w ⊞ (a ⊡ r)) ≡ minus v w ⊞ (opposite a ⊡ r)
minus-plus_scaled positive v w r a = λ i k. (sub-add positive (v k) (w k) (a ⊗ r k) ∙ ap (λ z. (v k ⊖ w k) ⊕ z) (opposite-mul positive a (r k))) i

-- the difference of two sums
pub plus-minus-plus : {p : ℕ} → 0 < p → (a b c d : Vector p) → minus (a ⊞ b) (c ⊞ d) ≡ minus a c ⊞ minus b d
plus-minus-plus positive a b c d = λ i k. add-sub-add positive (a k) (b k) (c k) (d k) i

-- a multiple of a difference
pub scale-minus : {p : ℕ} → 0 < p → (a : Residue p) (v w : Vector p) → a ⊡ minus v w ≡ minus (a ⊡ v) (a ⊡ w)
scale-minus positive a v w = λ i k. mul-sub positive a (v k) (w k) i

-- a combination by a difference of coefficients
pub combination-minus : {p : ℕ} → 0 < p → (c d : Vector p) (rows : List (Vector p))
    → combination (minus c d) rows ≡ minus (combination c rows) (combination d rows)
combination-minus {p} positive c d rows = ap (λ e. combination e rows) (minus-times positive c d) ∙ combination-plus c (residue p (p - 1) ⊡ d) rows
    ∙ ap (λ v. combination c rows ⊞ v) (combination-scale (residue p (p - 1)) d rows)
    ∙ sym (minus-times positive (combination c rows) (combination d rows))

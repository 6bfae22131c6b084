-- The laws of vectors and of combinations.
use Rattle.std.proofs.Common.{◌≡◌, ℕ, List, [], ◌∷◌, map, refl, sym, ◌∙◌}
use Rattle.linear_algebra.specs.Residue.{Residue, residue, ◌⊕◌, ◌⊗◌}
use Rattle.linear_algebra.specs.Vector.{Vector, ◌⊞◌, ◌⊡◌, zeros, tail, combination}
use Rattle.linear_algebra.proofs.ResidueLaws

-- sums commute
pub plus_comm : {p : ℕ} (v w : Vector p) → v ⊞ w ≡ w ⊞ v
plus_comm v w = λ i k. ResidueLaws.add_comm (v k) (w k) i

-- sums associate
pub plus_assoc : {p : ℕ} (u v w : Vector p) → (u ⊞ v) ⊞ w ≡ u ⊞ (v ⊞ w)
plus_assoc u v w = λ i k. ResidueLaws.add_assoc (u k) (v k) (w k) i

-- 0 added
pub plus-zeros : {p : ℕ} (v : Vector p) → v ⊞ zeros ≡ v
plus-zeros v = λ i k. ResidueLaws.add-zero (v k) i

-- a multiple of a sum
pub scale-plus : {p : ℕ} (a : Residue p) (v w : Vector p) → a ⊡ (v ⊞ w) ≡ (a ⊡ v) ⊞ (a ⊡ w)
scale-plus a v w = λ i k. ResidueLaws.mul-add a (v k) (w k) i

-- a sum of multiples
pub plus-scale : {p : ℕ} (a b : Residue p) (v : Vector p) → (a ⊕ b) ⊡ v ≡ (a ⊡ v) ⊞ (b ⊡ v)
plus-scale a b v = λ i k. ResidueLaws.add-mul a b (v k) i

-- a multiple of a multiple
pub scale-scale : {p : ℕ} (a b : Residue p) (v : Vector p) → (a ⊗ b) ⊡ v ≡ a ⊡ (b ⊡ v)
scale-scale a b v = λ i k. ResidueLaws.mul_assoc a b (v k) i

-- 0 times a vector
pub zero-scale : {p : ℕ} (v : Vector p) → residue p 0 ⊡ v ≡ zeros
zero-scale v = λ i k. ResidueLaws.zero-mul (v k) i

-- a multiple of 0
pub scale-zeros : {p : ℕ} (a : Residue p) → a ⊡ zeros ≡ zeros
scale-zeros {p} a = λ i k. (ResidueLaws.mul_comm a (residue p 0) ∙ ResidueLaws.zero-mul a) i

-- two sums of two, with the inner terms exchanged
pub plus_middle : {p : ℕ} (a b c d : Vector p) → (a ⊞ b) ⊞ (c ⊞ d) ≡ (a ⊞ c) ⊞ (b ⊞ d)
plus_middle a b c d = λ i k. ResidueLaws.add_middle (a k) (b k) (c k) (d k) i

-- a sum of three, with the first two exchanged
pub plus_left_comm : {p : ℕ} (a b c : Vector p) → a ⊞ (b ⊞ c) ≡ b ⊞ (a ⊞ c)
plus_left_comm a b c = λ i k. ResidueLaws.add_left_comm (a k) (b k) (c k) i

-- a sum of three, with the last two exchanged
pub plus_right_comm : {p : ℕ} (a b c : Vector p) → (a ⊞ b) ⊞ c ≡ (a ⊞ c) ⊞ b
plus_right_comm a b c = λ i k. ResidueLaws.add_right_comm (a k) (b k) (c k) i

-- 0 with a vector added
pub zeros-plus : {p : ℕ} (v : Vector p) → zeros ⊞ v ≡ v
zeros-plus v = plus_comm zeros v ∙ plus-zeros v

-- 1 times a vector
pub one-scale : {p : ℕ} (v : Vector p) → residue p 1 ⊡ v ≡ v
one-scale v = λ i k. ResidueLaws.one-mul (v k) i

-- a combination by a sum of coefficients
pub combination-plus : {p : ℕ} (c d : Vector p) (rows : List (Vector p)) → combination (c ⊞ d) rows ≡ combination c rows ⊞ combination d rows
combination-plus c d [] = sym (plus-zeros zeros)
combination-plus c d (r ∷ rs) = rw (combination-plus (tail c) (tail d) rs, plus-scale (c 0) (d 0) r)
    (plus_middle (c 0 ⊡ r) (d 0 ⊡ r) (combination (tail c) rs) (combination (tail d) rs))

-- a combination by a multiple of the coefficients
pub combination-scale : {p : ℕ} (a : Residue p) (c : Vector p) (rows : List (Vector p)) → combination (a ⊡ c) rows ≡ a ⊡ combination c rows
combination-scale a c [] = sym (scale-zeros a)
combination-scale a c (r ∷ rs) = rw (combination-scale a (tail c) rs, scale-scale a (c 0) r) (sym (scale-plus a (c 0 ⊡ r) (combination (tail c) rs)))

-- a combination by the coefficients 0
pub combination-zeros : {p : ℕ} (rows : List (Vector p)) → combination zeros rows ≡ zeros
combination-zeros [] = refl
combination-zeros (r ∷ rs) = rw (combination-zeros rs, zero-scale r) (plus-zeros zeros)

-- a combination of combinations is a combination
pub combination-combinations : {p : ℕ} (c : Vector p) (ds basis : List (Vector p))
    → combination c (map (λ d. combination d basis) ds) ≡ combination (combination c ds) basis
combination-combinations c [] basis = sym (combination-zeros basis)
combination-combinations c (d ∷ ds) basis = rw (
  combination-combinations (tail c) ds basis,
  combination-plus (c 0 ⊡ d) (combination (tail c) ds)
      basis,
  combination-scale (c 0) d basis,
)

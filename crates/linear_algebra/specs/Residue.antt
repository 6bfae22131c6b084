-- Residues modulo p, for p at least 1 (Ireland and Rosen, A Classical Introduction to Modern Number Theory, ch. 3). At p = 0 they are the numbers.
--   Residue p     a residue modulo p, held by its value below p
--   residue p n   the residue of the number n
--   a ⊕ b, a ⊗ b  sum and product
--   opposite a    the residue that a is cancelled by
--   a ⊖ b         difference
use Rattle.std.specs.Prelude.{◌≡◌, ℕ, ◌+◌, ◌*◌, ◌-◌, ◌%◌}
use Rattle.std.proofs.Math.Nat.{mod-mod}

infixl 60 ◌⊕◌ ◌⊖◌
infixl 70 ◌⊗◌
pub record Residue (p : ℕ) : Type 0 where
  pub value : ℕ
  pub reduced : value % p ≡ value

unfoldable pub residue : (p : ℕ) → ℕ → Residue p
residue p n = record { value = n % p; reduced = mod-mod n p }

unfoldable pub ◌⊕◌ : {p : ℕ} → Residue p → Residue p → Residue p
◌⊕◌ {p} a b = residue p (a.value + b.value)

unfoldable pub ◌⊗◌ : {p : ℕ} → Residue p → Residue p → Residue p
◌⊗◌ {p} a b = residue p (a.value * b.value)

unfoldable pub opposite : {p : ℕ} → Residue p → Residue p
opposite {p} a = residue p (p - a.value)

unfoldable pub ◌⊖◌ : {p : ℕ} → Residue p → Residue p → Residue p
a ⊖ b = a ⊕ opposite b

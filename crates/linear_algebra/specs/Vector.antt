-- Vectors of residues and their combinations (Axler, Linear Algebra Done Right, ch. 1 and 2).
--   Vector p            a residue at each place; a vector of length d is 0 from place d on, and coefficients of rows are a vector too
--   v ⊞ w, minus v w    sum and difference, place by place
--   a ⊡ v               a times v
--   zeros               the vector 0
--   tail c              c without its first entry
--   combination c rows  the sum of the rows, row j times c j
--   EndsBefore d v      v is a vector of length d: 0 from place d on
use Rattle.std.specs.Prelude.{◌≡◌, ℕ, List, [], ◌∷◌, ◌≤◌}
use Rattle.std.proofs.Common.{suc}
use Rattle.linear_algebra.specs.Residue.{Residue, residue, ◌⊕◌, ◌⊗◌, ◌⊖◌}

infixl 60 ◌⊞◌
infixl 70 ◌⊡◌
abbrev pub Vector : ℕ → Type 0
Vector p = ℕ → Residue p

abbrev pub ◌⊞◌ : {p : ℕ} → Vector p → Vector p → Vector p
(v ⊞ w) k = v k ⊕ w k

abbrev pub ◌⊡◌ : {p : ℕ} → Residue p → Vector p → Vector p
(c ⊡ v) k = c ⊗ v k

abbrev pub zeros : {p : ℕ} → Vector p
zeros {p} k = residue p 0

abbrev pub tail : {p : ℕ} → Vector p → Vector p
tail c k = c (suc k)

abbrev pub combination : {p : ℕ} → Vector p → List (Vector p) → Vector p
combination c [] = zeros
combination c (r ∷ rs) = (c 0 ⊡ r) ⊞ combination (tail c) rs

abbrev pub EndsBefore : {p : ℕ} → ℕ → Vector p → Type 0
EndsBefore {p} d v = (k : ℕ) → d ≤ k → v k ≡ residue p 0

abbrev pub minus : {p : ℕ} → Vector p → Vector p → Vector p
minus v w k = v k ⊖ w k

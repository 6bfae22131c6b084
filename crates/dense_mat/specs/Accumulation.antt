-- Sums of products of residues in words of 64 bits, reduced seldom (as FLINT's nmod_mat_mul does).
--   HasRoom n sums  the sums are those of n products at most, the ones since the last reduction,
--                   which comes after each STRETCH of them
use Rattle.std.specs.Prelude.{◌≤◌, ◌+◌, ◌*◌, ◌%◌, ℕ, List, All}
use Rattle.field_table.specs.declared.table.TheConstants.{CHARACTERISTIC_LIMIT}
use Rattle.field_table.specs.declared.products.TheConstants.{STRETCH}

abbrev pub HasRoom : ℕ → List ℕ → Type 0
HasRoom n sums = All (λ x. x ≤ (n % STRETCH + 1) * (CHARACTERISTIC_LIMIT * CHARACTERISTIC_LIMIT)) sums

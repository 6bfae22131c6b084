-- The table of characteristics.
--   is_listed p   the test whether p is a number of the table, which computes
--   IsListed p    p is a number of the table
use Rattle.std.specs.Prelude.{◌≡◌, ℕ, Bool, true, nat_eq}
use Rattle.std.specs.List.{list_any}
use Rattle.field_table.specs.declared.table.TheConstants.{CHARACTERISTICS}

-- the test whether p is a number of the table
abbrev pub is_listed : ℕ → Bool
is_listed p = list_any (nat_eq p) CHARACTERISTICS

-- p is a number of the table
abbrev pub IsListed : ℕ → Type 0
IsListed p = is_listed p ≡ true

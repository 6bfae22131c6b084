-- The limits of a command, in the order in which they are tried.
--   is_past z, is_term_past t   a magnitude is above MAX_MAGNITUDE
--   has_past g                  one of the numbers that were given, but for n, is past
--   limit_of g                  the first limit that what was given breaks
use Rattle.std.specs.Prelude.{ℤ, unsigned_abs, Bool, not, length, Option, Some, None, ◌&&◌, ◌||◌, nat_le, nat_lt, if◌then◌else◌}
use Rattle.std.specs.List.{list_any}
use Rattle.p1_normal.specs.declared.matrix.TheConstants.{MAX_DET}
use Rattle.op_polynomials.specs.declared.poly.TheConstants.{MAX_COEFFICIENTS}
use Rattle.script_text.specs.declared.limits.TheConstants.{MAX_TERMS, MAX_MAGNITUDE}
use Rattle.script_text.specs.declared.command_fault.LimitWord.{LimitWord}
use Rattle.script_text.specs.declared.command_fault.LimitWord.TheVariants as limits
use Rattle.script_text.specs.declared.term.Term.{Term}
use Rattle.script_text.specs.Tokens.{Given}

abbrev pub is_past : ℤ → Bool
is_past z = nat_lt MAX_MAGNITUDE (unsigned_abs z)

abbrev pub is_term_past : Term → Bool
is_term_past t = is_past t.coefficient || is_past t.u || is_past t.v

abbrev pub has_past : Given → Bool
has_past g = nat_lt MAX_MAGNITUDE g.number || list_any is_past g.integers || list_any is_past g.coefficients || list_any is_term_past g.terms

abbrev pub limit_of : Given → Option LimitWord
limit_of g =
    if not (nat_le 1 g.n && nat_le g.n MAX_DET) then Some limits.N
    else if nat_lt MAX_COEFFICIENTS (length g.coefficients) then Some limits.Degree
    else if nat_lt MAX_TERMS (length g.terms) then Some limits.Terms
    else if has_past g then Some limits.Number
    else None

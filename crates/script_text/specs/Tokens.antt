-- What one token of a command is, and what it gives.
--   is_operator t      `T` directly followed by a natural, or `star`
--   is_term ps         three integers: the parts of a token between colons
--   is_kind k t        the token is of this kind
--   natural t, integer t   the number of a token; a magnitude above MAX_MAGNITUDE counts as MAX_MAGNITUDE + 1, as each such number is refused alike
--   term ps            the term that three parts give
--   Given              what the tokens of a command give: the integers, the number of `part`, the n of `image`, `chains` or T
--                      (1 where there is none), the operator, the coefficients and the terms
--   nothing            what no token gives
--   add_operator t g   what was given, with an operator
--   add k t g          what was given, with a token of this kind
use Rattle.std.specs.Prelude.{ℕ, ℤ, ◌+◌, Bool, false, List, [], ◌∷◌, ◌++◌, map, ◌==◌, ◌&&◌, if◌then◌else◌, codes}
use Rattle.std.specs.List.{list_all}
use Rattle.std.specs.Str.{bytes_eq}
use Rattle.text_lines.specs.Lines.{parts}
use Rattle.text_lines.specs.Numbers.{is_natural, is_integer, capped_natural, capped_integer}
use Rattle.op_polynomials.specs.declared.name.OpName.{OpName}
use Rattle.op_polynomials.specs.declared.name.OpName.TheVariants as ops
use Rattle.script_text.specs.declared.limits.TheConstants.{MAX_MAGNITUDE}
use Rattle.script_text.specs.declared.kind.Kind.{Kind}
use Rattle.script_text.specs.declared.kind.Kind.TheVariants as kinds
use Rattle.script_text.specs.declared.term.Term.{Term}

abbrev pub is_operator : List ℕ → Bool
is_operator [] = false
is_operator (b ∷ token) = if b == 84 then is_natural token else bytes_eq (b ∷ token) (codes "star")

abbrev pub is_term : List (List ℕ) → Bool
is_term [] = false
is_term (a ∷ []) = false
is_term (a ∷ b ∷ []) = false
is_term (a ∷ b ∷ c ∷ []) = is_integer a && is_integer b && is_integer c
is_term (a ∷ b ∷ c ∷ d ∷ more) = false

abbrev pub is_kind : Kind → List ℕ → Bool
is_kind kinds.Integer token = is_integer token
is_kind kinds.Natural token = is_natural token
is_kind kinds.Index token = is_natural token
is_kind kinds.Operator token = is_operator token
is_kind kinds.Coefficients token = list_all is_integer (parts 44 token)
is_kind kinds.Term token = is_term (parts 58 token)

abbrev pub natural : List ℕ → ℕ
natural token = capped_natural (MAX_MAGNITUDE + 1) token

abbrev pub integer : List ℕ → ℤ
integer token = capped_integer (MAX_MAGNITUDE + 1) token

abbrev pub term : List (List ℕ) → Term
term [] = record { coefficient = integer []; u = integer []; v = integer [] }
term (a ∷ []) = record { coefficient = integer a; u = integer []; v = integer [] }
term (a ∷ b ∷ []) = record { coefficient = integer a; u = integer b; v = integer [] }
term (a ∷ b ∷ c ∷ more) = record { coefficient = integer a; u = integer b; v = integer c }

pub record Given : Type 0 where
  pub integers : List ℤ
  pub number : ℕ
  pub n : ℕ
  pub op : OpName
  pub coefficients : List ℤ
  pub terms : List Term

abbrev pub nothing : Given
nothing = record { integers = []; number = 0; n = 1; op = ops.Star; coefficients = []; terms = [] }

abbrev pub add_operator : List ℕ → Given → Given
add_operator [] g = g
add_operator (b ∷ token) g = if b == 84 then record g { n = natural token; op = ops.T (natural token) } else record g { op = ops.Star }

abbrev pub add : Kind → List ℕ → Given → Given
add kinds.Integer token g = record g { integers = g.integers ++ integer token ∷ [] }
add kinds.Natural token g = record g { number = natural token }
add kinds.Index token g = record g { n = natural token }
add kinds.Operator token g = add_operator token g
add kinds.Coefficients token g = record g { coefficients = g.coefficients ++ map integer (parts 44 token) }
add kinds.Term token g = record g { terms = g.terms ++ term (parts 58 token) ∷ [] }

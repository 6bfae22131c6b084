-- The terms of a command, each a coefficient and a pair. N is the level, g a ground: a level N and a characteristic p.
--   pair u v             the pair of a command as a term
--   terms_of c           the terms of a command: none of a command without a term or a pair
--   symbol_of N t        the symbol that the pair of a term names
--   names_point N t      the pair of a term names a point
--   first_unnamed N ts   the place, from 0, of the first term whose pair names no point
--   symbol_terms N ts    the terms, with the number of its symbol in the stead of each pair
--   symbols_of N ts      the numbers of the symbols of the terms
--   combination g ts     the combination of the terms: each symbol by its number, each coefficient by its residue
--   vector_of g ts       this combination as a vector
use Rattle.std.specs.Prelude.{ℕ, ℤ, pos, Bool, not, List, [], ◌∷◌, map, nat_eq, position, Option}
use Rattle.linear_algebra.specs.Vector.{Vector}
use Rattle.linear_algebra.specs.Sparse.{sparse}
use Rattle.field_table.specs.Terms.{residue_terms}
use Rattle.p1_normal.specs.declared.point.Point.{Point}
use Rattle.p1_normal.specs.Points.{reduced, common_divisor, normal_form, number}
use Rattle.quotient_coords.specs.Quotient.{Ground}
use Rattle.script_text.specs.declared.command.Command.{Command}
use Rattle.script_text.specs.declared.command.Command.TheVariants as commands
use Rattle.script_text.specs.declared.term.Term.{Term}

abbrev pub pair : ℤ → ℤ → Term
pair u v = record { coefficient = pos 1; u = u; v = v }

abbrev pub terms_of : Command → List Term
terms_of (commands.Normal u v) = pair u v ∷ []
terms_of (commands.Reduce terms) = terms
terms_of (commands.Certify terms) = terms
terms_of (commands.Image n terms) = terms
terms_of (commands.Star terms) = terms
terms_of (commands.Boundary terms) = terms
terms_of command = []

abbrev pub symbol_of : ℕ → Term → Point
symbol_of N t = normal_form N (reduced N t.u t.v)

abbrev pub names_point : ℕ → Term → Bool
names_point N t = nat_eq (common_divisor N (reduced N t.u t.v)) 1

abbrev pub first_unnamed : ℕ → List Term → Option ℕ
first_unnamed N terms = position (λ t. not (names_point N t)) terms

abbrev pub symbol_terms : ℕ → List Term → List (ℕ × ℤ)
symbol_terms N terms = map (λ t. (number N (symbol_of N t), t.coefficient)) terms

abbrev pub symbols_of : ℕ → List Term → List ℕ
symbols_of N terms = map (λ t. t.0) (symbol_terms N terms)

abbrev pub combination : Ground → List Term → List (ℕ × ℕ)
combination g terms = residue_terms g.characteristic (symbol_terms g.level terms)

abbrev pub vector_of : (g : Ground) → List Term → Vector g.characteristic
vector_of g terms = sparse g.characteristic (combination g terms)

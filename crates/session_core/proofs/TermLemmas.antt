-- Terms one after another: the first that names no point, and the places of their symbols.
use Rattle.std.proofs.Common.{◌≡◌, ◌≢◌, ◌+◌, ◌<◌, ◌≤◌, ℕ, ℤ, pos, true, false, not, cond, List, [], ◌∷◌, ◌++◌, length, get_or, take, All, Some, None, nat_lt, sym, ◌∙◌, ap, subst, below_more, eq-eqb, arith}
use Rattle.std.specs.List.{position_or_len}
use Rattle.std.proofs.lemmas.Bool.{le-ltb, lt-ltb, ne_eqb}
use Rattle.std.proofs.lemmas.List.{map_more}
use Rattle.std.proofs.lemmas.List.Sums.{position_or_len_is}
use Rattle.std.proofs.lemmas.List.Elements.{All-map}
use Rattle.linear_algebra.specs.Vector.{EndsBefore}
use Rattle.linear_algebra.specs.Sparse.{sparse, IsCombo}
use Rattle.linear_algebra.proofs.SparseLaws.{EndsBefore-sparse}
use Rattle.linear_algebra.specs.Integers.{residue_of}
use Rattle.field_table.specs.Residues.{HasResidues}
use Rattle.field_table.specs.Terms.{residue_terms, HasPlacesBelow}
use Rattle.field_table.proofs.Places.{HasPlacesBelow-from_vector}
use Rattle.p1_normal.specs.Points.{common_divisor, reduced, number}
use Rattle.script_text.specs.declared.term.Term.{Term}
use Rattle.reply_text.specs.declared.refusal.Refusal.TheVariants as refusals
use Rattle.session_core.specs.Refusals.{unnamed}
use Rattle.session_core.specs.Terms.{names_point, first_unnamed, symbol_of, symbol_terms}

-- what is read past the end of a list of terms
abbrev pub no_term : Term
no_term = record { coefficient = pos 0; u = pos 0; v = pos 0 }

-- each of the first i terms names a point
pub record NameUpTo (N : ℕ) (terms : List Term) (i : ℕ) : Type 0 where
  pub each : (k : ℕ) → k < i → names_point N (get_or terms k no_term) ≡ true

-- one more term names a point
pub names_more : (N : ℕ) (terms : List Term) (i : ℕ) → NameUpTo N terms i
    → common_divisor N (reduced N (get_or terms i no_term).u (get_or terms i no_term).v) ≡ 1 → NameUpTo N terms (i + 1)
names_more N terms i h e = record {
  each = below_more (λ k. names_point N (get_or terms k no_term) ≡ true) i h.each
      (eq-eqb (common_divisor N (reduced N (get_or terms i no_term).u (get_or terms i no_term).v)) 1 e);
}

-- one more term with its symbol's number
pub symbol_terms_more : (N : ℕ) (terms : List Term) (i n : ℕ) (items : List (ℕ × ℤ)) → i < length terms → items ≡ symbol_terms N (take i terms)
    → n ≡ number N (symbol_of N (get_or terms i no_term))
    → items ++ (n, (get_or terms i no_term).coefficient) ∷ [] ≡ symbol_terms N (take (i + 1) terms)
symbol_terms_more N terms i n items l e same =
    ap (λ k. items ++ (k, (get_or terms i no_term).coefficient) ∷ []) same
    ∙ ap (λ ts. ts ++ (number N (symbol_of N (get_or terms i no_term)), (get_or terms i no_term).coefficient) ∷ []) e
    ∙ sym (map_more (λ t. (number N (symbol_of N t), t.coefficient)) terms i no_term l)

-- where the first i terms name points and the next does not, it is the first that does not
first_unnamed_place : (N : ℕ) (terms : List Term) (i : ℕ) → NameUpTo N terms i → i ≤ length terms
    → (i < length terms → names_point N (get_or terms i no_term) ≡ false)
    → position_or_len (λ t. not (names_point N t)) terms ≡ i
first_unnamed_place N terms i h l e = position_or_len_is (λ t. not (names_point N t)) terms i no_term l (λ k u. ap not (h.each k u))
    (λ u. ap not (e u))

-- where all of them name points, none is the first that does not
pub first_unnamed-none : (N : ℕ) (terms : List Term) → NameUpTo N terms (length terms) → first_unnamed N terms ≡ None
first_unnamed-none N terms h =
    ap (λ j. cond (nat_lt j (length terms)) (Some j) None) (first_unnamed_place N terms (length terms) h (omega arith) (λ u. absurd (omega arith)))
    ∙ ap (λ t. cond t (Some (length terms)) None) (le-ltb (length terms) (length terms) (omega arith))

-- the first term that names no point
pub first_unnamed-some : (N : ℕ) (terms : List Term) (i : ℕ) → NameUpTo N terms i → i < length terms
    → names_point N (get_or terms i no_term) ≡ false → first_unnamed N terms ≡ Some i
first_unnamed-some N terms i h l e =
    ap (λ j. cond (nat_lt j (length terms)) (Some j) None) (first_unnamed_place N terms i h (omega arith) (λ u. e))
    ∙ ap (λ t. cond t (Some i) None) (lt-ltb i (length terms) l)

-- the refusal names that term by its number from 1
pub unnamed_is : (N : ℕ) (terms : List Term) (i j : ℕ) → NameUpTo N terms i → i < length terms
    → common_divisor N (reduced N (get_or terms i no_term).u (get_or terms i no_term).v) ≢ 1 → j ≡ i + 1
    → unnamed (first_unnamed N terms) ≡ Some (refusals.NotSymbol j)
unnamed_is N terms i j h l e same =
    ap unnamed (first_unnamed-some N terms i h l (ne_eqb (common_divisor N (reduced N (get_or terms i no_term).u (get_or terms i no_term).v)) 1 e))
    ∙ ap (λ k. Some (refusals.NotSymbol k)) (sym same)

-- the residues of terms stand at the places of the terms
pub places_of_residues : (p d : ℕ) (ts : List (ℕ × ℤ)) → All (λ t. t.0 < d) ts → HasPlacesBelow d (residue_terms p ts)
places_of_residues p d ts below = All-map (λ t. t.0 < d) (λ t. (t.0, residue_of p t.1)) ts below

-- the combination of terms with places below d has its places below d
pub places_of_combination : (p d : ℕ) (ts : List (ℕ × ℤ)) (c : List (ℕ × ℕ)) → All (λ t. t.0 < d) ts → sparse p c ≡ sparse p (residue_terms p ts)
    → IsCombo c → HasResidues p c → HasPlacesBelow d c
places_of_combination p d ts c below same combo residues =
    HasPlacesBelow-from_vector p d c combo residues (subst (EndsBefore d) (sym same)
    (EndsBefore-sparse p d (residue_terms p ts) (places_of_residues p d ts below)))

-- Relations as vectors and as lists of terms.
use Rattle.std.proofs.Common.{◌≡◌, ◌+◌, ◌*◌, ◌%◌, ◌<◌, ℕ, Bool, true, false, cond, List, [], ◌∷◌, length, map, nat_eq, refl, sym, ◌∙◌, ap, subst}
use Rattle.std.specs.Prelude.{count_by}
use Rattle.std.proofs.Math.Nat.{mod-mod}
use Rattle.std.proofs.lemmas.List.Elements.{All-map}
use Rattle.linear_algebra.specs.Residue.{residue, ◌⊕◌}
use Rattle.linear_algebra.specs.Vector.{EndsBefore}
use Rattle.linear_algebra.specs.Sparse.{single, sparse}
use Rattle.linear_algebra.proofs.ResidueLaws.{same_residue, values}
use Rattle.linear_algebra.proofs.SparseLaws.{sparse_nil, sparse-cons, EndsBefore-sparse}
use Rattle.field_table.proofs.Places.{HasPlacesBelow-from_vector}
use Rattle.p1_normal.specs.Points.{symbols}
use Rattle.p1_normal.specs.Relations.{relation_symbols}
use Rattle.manin_relations.specs.Relations.{relation, IsSum, IsRelation}
use Rattle.manin_relations.proofs.Occurrences.{count_by-cons, relation_symbols-lt}

-- each symbol of a list once more
abbrev pub ones : ℕ → List ℕ → List (ℕ × ℕ)
ones a ks = map (λ k. (k, a)) ks

-- where a is 1 modulo p, the terms with a at the symbols count them
pub sparse-ones : (p a : ℕ) (ks : List ℕ) (j : ℕ) → a % p ≡ 1 % p → sparse p (ones a ks) j ≡ residue p (count_by (nat_eq j) ks)
unfolding single
sparse-ones p a [] j one = ap (λ v. v j) (sparse_nil p)
sparse-ones p a (k ∷ ks) j one =
    ap (λ v. v j) (sparse-cons p (k, a) (ones a ks))
    ∙ ap (λ r. single p k a j ⊕ r) (sparse-ones p a ks j one)
    ∙ both (nat_eq j k) (count_by (nat_eq j) ks)
    ∙ ap (residue p) (sym (count_by-cons j k ks))
  where
    both : (t : Bool) (n : ℕ) → cond t (residue p a) (residue p 0) ⊕ residue p n ≡ residue p (cond t 1 0 + n)
    both true n = ap (λ r. r ⊕ residue p n) (same_residue (residue p a) (residue p 1) (simp values one))
        ∙ same_residue (residue p 1 ⊕ residue p n) (residue p (1 + n)) (simp values)
    both false n = same_residue (residue p 0 ⊕ residue p n) (residue p (0 + n)) (simp values)

-- relation k is the sum of its symbols
pub relation_ones : (p a N k : ℕ) → a % p ≡ 1 % p → sparse p (ones a (relation_symbols N k)) ≡ relation {p = p} N k
unfolding relation
relation_ones p a N k one = λ i j. sparse-ones p a (relation_symbols N k) j one i

-- a relation is a vector of length m
pub EndsBefore-relation : (p N k : ℕ) → k < 2 * length (symbols N) → EndsBefore (length (symbols N)) (relation {p = p} N k)
EndsBefore-relation p N k l j above =
    ap (λ v. v j) (sym (relation_ones p 1 N k refl))
    ∙ EndsBefore-sparse p (length (symbols N)) (ones 1 (relation_symbols N k))
    (All-map (λ t. t.0 < length (symbols N)) (λ k. (k, 1)) (relation_symbols N k) (relation_symbols-lt N k l)) j above

-- the sum of the symbols of relation k, each with the residue of 1, is relation k
pub IsRelation-from_sum : (N p k : ℕ) (ks : List ℕ) (c : List (ℕ × ℕ)) → k < 2 * length (symbols N) → relation_symbols N k ≡ ks
    → IsSum p (ones (1 % p) ks) c → IsRelation N p k c
IsRelation-from_sum N p k ks c l same sum =
    let vector : sparse p c ≡ relation {p = p} N k = sum.vector ∙ ap (λ js. sparse p (ones (1 % p) js)) (sym same)
    ∙ relation_ones p (1 % p) N k (mod-mod 1 p) in
    record {
      vector = vector;
      residues = sum.residues;
      places = HasPlacesBelow-from_vector p (length (symbols N)) c sum.combo sum.residues
          (subst (EndsBefore (length (symbols N))) (sym vector) (EndsBefore-relation p N k l));
    }

-- The relations between Manin symbols as vectors, and congruence modulo all of them
-- (Manin 1972; Stein, Modular Forms: A Computational Approach, chapter 3). N is a level with m symbols.
--   relation N k           relation k as a vector of length m: how often each symbol occurs in it, modulo p
--   relations N            the 2 m relations in order
--   Congruent N x y        x - y is a combination of the relations
--   IsSum p terms c        c is the sum of the terms, with rising places, residues below p and no zero
--   IsRelation N p k c     c is relation k, with residues below p at places below m
--   AreRelations N p rows  the lists of terms are the relations in order, with residues below p at places below m
use Rattle.std.specs.Prelude.{◌≡◌, ℕ, ◌*◌, List, length, map, nat_eq, count_by, All}
use Rattle.std.specs.List.{range_with_len}
use Rattle.linear_algebra.specs.Residue.{residue}
use Rattle.linear_algebra.specs.Vector.{Vector, minus}
use Rattle.linear_algebra.specs.Span.{InSpan}
use Rattle.linear_algebra.specs.Sparse.{sparse, sparse_rows, IsCombo}
use Rattle.field_table.specs.Residues.{HasResidues}
use Rattle.field_table.specs.Terms.{HasPlacesBelow}
use Rattle.p1_normal.specs.Points.{symbols}
use Rattle.p1_normal.specs.Relations.{relation_symbols}

-- how often each symbol occurs in relation k
unfoldable pub relation : {p : ℕ} → ℕ → ℕ → Vector p
relation {p} N k j = residue p (count_by (nat_eq j) (relation_symbols N k))

-- all relations
abbrev pub relations : {p : ℕ} → ℕ → List (Vector p)
relations {p} N = map (relation {p = p} N) (range_with_len 0 (2 * length (symbols N)))

-- the difference is a combination of the relations
abbrev pub Congruent : {p : ℕ} → ℕ → Vector p → Vector p → Type 0
Congruent N x y = InSpan (relations N) (minus x y)

-- a list of terms with the sum of others
pub record IsSum (p : ℕ) (terms c : List (ℕ × ℕ)) : Type 0 where
  pub vector : sparse p c ≡ sparse p terms
  pub residues : HasResidues p c
  pub combo : IsCombo c

-- a list of terms that is relation k
pub record IsRelation (N p k : ℕ) (c : List (ℕ × ℕ)) : Type 0 where
  pub vector : sparse p c ≡ relation N k
  pub residues : HasResidues p c
  pub places : HasPlacesBelow (length (symbols N)) c

-- lists of terms that are all relations
pub record AreRelations (N p : ℕ) (rows : List (List (ℕ × ℕ))) : Type 0 where
  pub vectors : sparse_rows p rows ≡ relations N
  pub residues : All (HasResidues p) rows
  pub places : All (HasPlacesBelow (length (symbols N))) rows

-- The rows of the first relations.
use Rattle.std.proofs.Common.{◌≡◌, ◌+◌, ◌*◌, ℕ, List, [], ◌∷◌, ◌++◌, length, map, All, refl, sym, ◌∙◌, ap, arith}
use Rattle.std.specs.List.{range_with_len}
use Rattle.std.proofs.lemmas.List.Elements.{All-nil, All-push}
use Rattle.std.proofs.lemmas.List.FromFn.{map-range_with_len_more}
use Rattle.linear_algebra.specs.Sparse.{sparse, sparse_rows}
use Rattle.field_table.specs.Residues.{HasResidues}
use Rattle.field_table.specs.Terms.{HasPlacesBelow}
use Rattle.p1_normal.specs.Points.{symbols}
use Rattle.manin_relations.specs.Relations.{relation, IsRelation, AreRelations}

-- the rows are the first n relations
pub record AreFirstRelations (N p n : ℕ) (rows : List (List (ℕ × ℕ))) : Type 0 where
  pub vectors : sparse_rows p rows ≡ map (relation {p = p} N) (range_with_len 0 n)
  pub residues : All (HasResidues p) rows
  pub places : All (HasPlacesBelow (length (symbols N))) rows

pub rows_none : (N p : ℕ) → AreFirstRelations N p 0 []
rows_none N p = record { vectors = refl; residues = All-nil (HasResidues p); places = All-nil (HasPlacesBelow (length (symbols N))) }

sparse_rows-push : (p : ℕ) (rows : List (List (ℕ × ℕ))) (c : List (ℕ × ℕ)) → sparse_rows p (rows ++ c ∷ []) ≡ sparse_rows p rows ++ sparse p c ∷ []
sparse_rows-push p [] c = refl
sparse_rows-push p (r ∷ rows) c = ap (λ vs. sparse p r ∷ vs) (sparse_rows-push p rows c)

pub rows_more : (N p n : ℕ) (rows : List (List (ℕ × ℕ))) (c : List (ℕ × ℕ)) → AreFirstRelations N p n rows → IsRelation N p n c
    → AreFirstRelations N p (n + 1) (rows ++ c ∷ [])
rows_more N p n rows c h is = record {
  vectors = sparse_rows-push p rows c ∙ ap (λ vs. vs ++ sparse p c ∷ []) h.vectors
      ∙ ap (λ v. map (relation {p = p} N) (range_with_len 0 n) ++ v ∷ []) is.vector
      ∙ sym (map-range_with_len_more (relation {p = p} N) 0 n n (omega arith));
  residues = All-push (HasResidues p) rows c h.residues is.residues;
  places = All-push (HasPlacesBelow (length (symbols N))) rows c h.places is.places;
}

pub rows_all : (N p n : ℕ) (rows : List (List (ℕ × ℕ))) → n ≡ 2 * length (symbols N) → AreFirstRelations N p n rows → AreRelations N p rows
rows_all N p n rows whole h = record {
  vectors = h.vectors ∙ ap (λ k. map (relation {p = p} N) (range_with_len 0 k)) whole;
  residues = h.residues;
  places = h.places;
}

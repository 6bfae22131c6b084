-- A row that repeats an earlier one.
use Rattle.std.proofs.Common.{◌≡◌, ◌⊎◌, ◌+◌, ◌<◌, ◌≤◌, inl, inr, ℕ, List, [], length, get_or, replicate, take, Option, Some, None, sym, ◌∙◌, ap, subst, arith}
use Rattle.std.proofs.lemmas.Bool.{cases_lt}
use Rattle.std.proofs.lemmas.List.{length-take-le, get_or-replicate, get_or_past, length-replicate}
use Rattle.linear_algebra.specs.Prime.{IsPrime}
use Rattle.linear_algebra.specs.Vector.{zeros}
use Rattle.linear_algebra.specs.Span.{InSpan}
use Rattle.linear_algebra.specs.Echelon.{remainder}
use Rattle.linear_algebra.specs.Sparse.{sparse, sparse_rows}
use Rattle.linear_algebra.proofs.SparseLaws.{sparse_nil}
use Rattle.linear_algebra.proofs.Elimination.{Each-row}
use Rattle.linear_algebra.proofs.Reductions.{remainder_spanned}
use Rattle.linear_algebra.proofs.Rows.{row-take}
use Rattle.sparse_echelon.specs.System.{System, vectors}
use Rattle.field_table.specs.Places.{PlaceList}
use Rattle.sparse_echelon.specs.Leads.{lead}
use Rattle.sparse_echelon.specs.Repeats.{AreBefore}
use Rattle.sparse_echelon.specs.Stored.{IsStored}
use Rattle.sparse_echelon.proofs.Steps.{given_row, stored_spanned}

-- a row that repeats an earlier one is no kept one
pub stored_repeated : (s : System) → IsPrime s.characteristic → (n : ℕ) (basis logs : List (List (ℕ × ℕ))) (l : PlaceList) (kept : List ℕ)
    → IsStored s n basis logs l kept → n < length s.rows
    → (i : ℕ) × (i < n) × (get_or s.rows i [] ≡ get_or s.rows n []) → IsStored s (n + 1) basis logs l kept
stored_repeated s prime n basis logs l kept h within (i, before, same) =
    let positive : 0 < s.characteristic = omega (arith, prime.above_one) in
    let spanned : InSpan (sparse_rows s.characteristic basis) (sparse s.characteristic (get_or s.rows n [])) =
    subst (InSpan (sparse_rows s.characteristic basis)) (row-take n (vectors s) i before ∙ given_row s i (omega arith)
    ∙ ap (sparse s.characteristic) same)
    (Each-row (take n (vectors s)) h.eliminated.top.spans i (omega (arith, length-take-le n (vectors s) h.eliminated.within))) in
    let nothing : remainder (sparse_rows s.characteristic basis) (lead l) (sparse s.characteristic (get_or s.rows n [])) ≡ zeros =
    remainder_spanned positive (sparse_rows s.characteristic basis) (lead l) h.eliminated.top.reduced
    (sparse s.characteristic (get_or s.rows n [])) spanned in
    stored_spanned s prime n basis logs l kept h within [] (sparse_nil s.characteristic ∙ sym nothing) (sparse_nil s.characteristic)

-- an empty table has no row
pub before_none : (width : ℕ) (last_rows : List (Option ℕ)) → last_rows ≡ replicate width None → AreBefore 0 last_rows
before_none width last_rows is_empty k i e = absurd (empty (cases_lt k width) (sym (ap (λ xs. get_or xs k None) is_empty) ∙ e))
  where
    empty : (k < width) ⊎ (width ≤ k) → get_or (replicate width None) k None ≡ Some i → ⊥
    empty (inl l) f = let g : None ≡ Some i = sym (get_or-replicate {A = Option ℕ} width k None None l) ∙ f in cc
    empty (inr l) f = let g : None ≡ Some i = sym (get_or_past (replicate width None) k None
        (omega (arith, length-replicate {A = Option ℕ} width None))) ∙ f in cc

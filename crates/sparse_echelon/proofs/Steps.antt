-- One row more in the stored form.
use Rattle.std.proofs.Common.{◌≡◌, ◌≢◌, ◌+◌, ◌<◌, ℕ, List, [], ◌∷◌, ◌++◌, length, get_or, refl, sym, ◌∙◌, ap, arith, length-append}
use Rattle.std.proofs.Math.ListN.{length-map, get_or-append}
use Rattle.std.proofs.lemmas.List.{get_or_push}
use Rattle.std.proofs.lemmas.List.Elements.{All-push, All-nil}
use Rattle.field_table.specs.Residues.{HasResidues}
use Rattle.field_table.specs.Terms.{HasPlacesBelow}
use Rattle.linear_algebra.specs.Residue.{residue, ◌⊗◌, opposite}
use Rattle.linear_algebra.specs.Prime.{IsPrime}
use Rattle.linear_algebra.specs.Vector.{Vector, ◌⊞◌, ◌⊡◌, zeros, combination, minus}
use Rattle.linear_algebra.specs.Span.{row}
use Rattle.linear_algebra.specs.Echelon.{remainder}
use Rattle.linear_algebra.specs.Sparse.{sparse, sparse_rows, IsCombo}
use Rattle.linear_algebra.specs.Coordinates.{unit}
use Rattle.linear_algebra.proofs.ResidueLaws.{mul_comm, zero-mul}
use Rattle.linear_algebra.proofs.SparseLaws.{row-sparse_rows, sparse_at, sparse-greatest}
use Rattle.linear_algebra.proofs.Reducing.{remainder_at_lead}
use Rattle.linear_algebra.proofs.Elimination.{eliminated_none, eliminated_spanned, eliminated_kept}
use Rattle.sparse_echelon.specs.System.{System, vectors}
use Rattle.field_table.specs.Places.{PlaceList}
use Rattle.sparse_echelon.specs.Leads.{lead, at_leads, AreRows}
use Rattle.sparse_echelon.specs.Stored.{IsStored}

-- before the first row
pub stored_none : (s : System) → IsStored s 0 [] [] (record { width = s.width; places = [] }) []
stored_none s = record {
  eliminated = eliminated_none (vectors s) (lead (record { width = s.width; places = [] }));
  width = refl;
  many = refl;
  basis_rows = record { places = All-nil (HasPlacesBelow s.width); residues = All-nil (HasResidues s.characteristic) };
  log_rows = record { places = All-nil (HasPlacesBelow (length s.rows)); residues = All-nil (HasResidues s.characteristic) };
  few = omega arith;
}

-- the rows as vectors are as many
pub length-sparse_rows : (p : ℕ) (rows : List (List (ℕ × ℕ))) → length (sparse_rows p rows) ≡ length rows
length-sparse_rows p rows = length-map rows (sparse p)

-- one row more of n numbers
AreRows-push : (p n : ℕ) (rows : List (List (ℕ × ℕ))) (r : List (ℕ × ℕ)) → AreRows p n rows → HasPlacesBelow n r → HasResidues p r
    → AreRows p n (rows ++ r ∷ [])
AreRows-push p n rows r h places residues = record {
  places = All-push (HasPlacesBelow n) rows r h.places places;
  residues = All-push
      (HasResidues p) rows r h.residues residues;
}

-- the first rows as vectors, where one is added
row-sparse_rows-push : (p : ℕ) (rows : List (List (ℕ × ℕ))) (r : List (ℕ × ℕ)) (j : ℕ) → j < length rows
    → row (sparse_rows p (rows ++ r ∷ [])) j ≡ sparse p (get_or rows j [])
row-sparse_rows-push p rows r j l = row-sparse_rows p (rows ++ r ∷ []) j (omega (arith, length-append rows (r ∷ [])))
    ∙ ap (sparse p) (get_or-append rows (r ∷ []) [] j l)

-- and the added one
last-sparse_rows-push : (p : ℕ) (rows : List (List (ℕ × ℕ))) (r : List (ℕ × ℕ)) (j : ℕ) → length rows ≡ j
    → row (sparse_rows p (rows ++ r ∷ [])) j ≡ sparse p r
last-sparse_rows-push p rows r j e = row-sparse_rows p (rows ++ r ∷ []) j (omega (arith, length-append rows (r ∷ [])))
    ∙ ap (sparse p) (get_or_push rows r [] j e)

-- row n of the given rows as a vector
pub given_row : (s : System) (n : ℕ) → n < length s.rows → row (vectors s) n ≡ sparse s.characteristic (get_or s.rows n [])
given_row s n l = row-sparse_rows s.characteristic s.rows n l

-- the greatest places with one more
lead_before : (l : PlaceList) (k w j : ℕ) → j < length l.places → lead (record { width = w; places = l.places ++ k ∷ [] }) j ≡ lead l j
lead_before l k w j u = get_or-append l.places (k ∷ []) 0 j u

-- what a row leaves is 0: it is no kept one
pub stored_spanned : (s : System) → IsPrime s.characteristic → (n : ℕ) (basis logs : List (List (ℕ × ℕ))) (l : PlaceList) (kept : List ℕ)
    → IsStored s n basis logs l kept → n < length s.rows
    → (left : List (ℕ × ℕ)) → sparse s.characteristic left ≡ remainder (sparse_rows s.characteristic basis) (lead l)
    (sparse s.characteristic (get_or s.rows n [])) → sparse s.characteristic left ≡ zeros
    → IsStored s (n + 1) basis logs l kept
stored_spanned s prime n basis logs l kept h within left is_left none = record {
  eliminated = eliminated_spanned prime (vectors s) n (sparse_rows s.characteristic basis) (sparse_rows s.characteristic logs)
      (lead l) kept h.eliminated (omega (arith, length-map s.rows (sparse s.characteristic)))
      (ap (remainder (sparse_rows s.characteristic basis) (lead l)) (given_row s n within) ∙ sym is_left ∙ none);
  width = h.width;
  many = h.many;
  basis_rows = h.basis_rows;
  log_rows = h.log_rows;
  few = omega (arith, h.few);
}

-- what a row leaves has the greatest place k: it is kept, with its multiple that is 1 there, and k is cleared from the others
pub stored_kept : (s : System) → IsPrime s.characteristic → (n : ℕ) (basis logs : List (List (ℕ × ℕ))) (l : PlaceList) (kept : List ℕ)
    → IsStored s n basis logs l kept → n < length s.rows
    → (left : List (ℕ × ℕ)) (k inverse : ℕ) → sparse s.characteristic left ≡ remainder (sparse_rows s.characteristic basis) (lead l)
    (sparse s.characteristic (get_or s.rows n []))
    → sparse s.characteristic left k ⊗ residue s.characteristic inverse ≡ residue s.characteristic 1
    → ((i : ℕ) → k < i → sparse s.characteristic left i ≡ residue s.characteristic 0)
    → (r t : List (ℕ × ℕ)) → sparse s.characteristic r ≡ residue s.characteristic inverse ⊡ sparse s.characteristic left
    → sparse s.characteristic t ≡ residue s.characteristic inverse ⊡ minus (unit n)
    (combination (at_leads l (sparse s.characteristic (get_or s.rows n []))) (sparse_rows s.characteristic logs))
    → HasPlacesBelow s.width r → HasPlacesBelow (length s.rows) t → HasResidues s.characteristic r → HasResidues s.characteristic t
    → (new newlogs : List (List (ℕ × ℕ))) → length new ≡ length basis → length newlogs ≡ length logs → AreRows s.characteristic s.width new
    → AreRows s.characteristic (length s.rows) newlogs
    → ((j : ℕ) → j < length basis → sparse s.characteristic (get_or new j []) ≡ sparse s.characteristic (get_or basis j []) ⊞
    (opposite (sparse s.characteristic (get_or basis j []) k) ⊡ sparse s.characteristic r))
    → ((j : ℕ) → j < length basis → sparse s.characteristic (get_or newlogs j []) ≡ sparse s.characteristic (get_or logs j []) ⊞
    (opposite (sparse s.characteristic (get_or basis j []) k) ⊡ sparse s.characteristic t))
    → IsStored s (n + 1) (new ++ r ∷ []) (newlogs ++ t ∷ []) (record { width = l.width; places = l.places ++ k ∷ [] }) (kept ++ n ∷ [])
stored_kept s prime n basis logs l kept h within left k inverse is_left one beyond r t is_r is_t r_sized t_sized r_residues t_residues new newlogs
    sized logs_sized rows log_rows old logs_old = record {
      eliminated = eliminated_kept prime (vectors s) n (sparse_rows p basis) (sparse_rows p logs) (lead l) kept h.eliminated
          (omega (arith, length-map s.rows (sparse p)))
          k (residue p inverse) inverted (λ i u. sym (ap (λ v. v i) left_is) ∙ beyond i u)
          (sparse p r) (sparse p t) (is_r ∙ ap (λ v. residue p inverse ⊡ v) left_is)
          (is_t ∙ ap (λ v. residue p inverse ⊡ minus (unit n) (combination (at_leads l v) (sparse_rows p logs))) (sym (given_row s n within)))
          (sparse_rows p (new ++ r ∷ [])) (sparse_rows p (newlogs ++ t ∷ [])) (lead (record { width = l.width; places = l.places ++ k ∷ [] }))
          (omega (arith, length-sparse_rows p (new ++ r ∷ []), length-append new (r ∷ []), length-sparse_rows p basis))
          (λ j u. row_old j (omega (arith, length-sparse_rows p basis)))
          (last-sparse_rows-push p new r (length (sparse_rows p basis)) (omega (arith, length-sparse_rows p basis)))
          (omega (arith, length-sparse_rows p (newlogs ++ t ∷ []), length-append newlogs (t ∷ []), length-sparse_rows p basis, many_logs))
          (λ j u. log_old j (omega (arith, length-sparse_rows p basis)))
          (last-sparse_rows-push p newlogs t (length (sparse_rows p basis)) (omega (arith, length-sparse_rows p basis, many_logs)))
          (λ j u. lead_before l k l.width j (omega (arith, length-sparse_rows p basis, h.many)))
          (get_or_push l.places k 0 (length (sparse_rows p basis)) (omega (arith, length-sparse_rows p basis, h.many)));
      width = h.width;
      many = omega (arith, length-append l.places (k ∷ []), length-append new (r ∷ []), h.many);
      basis_rows = AreRows-push p s.width new r rows r_sized r_residues;
      log_rows = AreRows-push p (length s.rows) newlogs t log_rows t_sized t_residues;
      few = omega (arith, length-append kept (n ∷ []), h.few);
    }
  where
    p : ℕ
    p = s.characteristic

    many_logs : length logs ≡ length basis
    many_logs = omega (arith, length-sparse_rows p logs, length-sparse_rows p basis, h.eliminated.logged)

    left_is : sparse p left ≡ remainder (sparse_rows p basis) (lead l) (row (vectors s) n)
    left_is = is_left ∙ ap (remainder (sparse_rows p basis) (lead l)) (sym (given_row s n within))

    inverted : residue p inverse ⊗ remainder (sparse_rows p basis) (lead l) (row (vectors s) n) k ≡ residue p 1
    inverted = ap (λ v. residue p inverse ⊗ v k) (sym left_is) ∙ mul_comm (residue p inverse) (sparse p left k) ∙ one

    row_old : (j : ℕ) → j < length basis → row (sparse_rows p (new ++ r ∷ [])) j ≡ row (sparse_rows p basis) j ⊞
        (opposite (row (sparse_rows p basis) j k) ⊡ sparse p r)
    row_old j u = row-sparse_rows-push p new r j (omega arith) ∙ old j u
        ∙ ap (λ v. v ⊞ (opposite (v k) ⊡ sparse p r)) (sym (row-sparse_rows p basis j u))

    log_old : (j : ℕ) → j < length basis → row (sparse_rows p (newlogs ++ t ∷ [])) j ≡ row (sparse_rows p logs) j ⊞
        (opposite (row (sparse_rows p basis) j k) ⊡ sparse p t)
    log_old j u = row-sparse_rows-push p newlogs t j (omega (arith, many_logs)) ∙ logs_old j u
        ∙ ap (λ v. v ⊞ (opposite (sparse p (get_or basis j []) k) ⊡ sparse p t)) (sym (row-sparse_rows p logs j (omega (arith, many_logs))))
        ∙ ap (λ v. row (sparse_rows p logs) j ⊞ (opposite (v k) ⊡ sparse p t)) (sym (row-sparse_rows p basis j u))

-- the greatest place of what a row leaves is that of no earlier row
pub other_leads : (s : System) → IsPrime s.characteristic → (n : ℕ) (basis logs : List (List (ℕ × ℕ))) (l : PlaceList) (kept : List ℕ)
    → IsStored s n basis logs l kept
    → (left : List (ℕ × ℕ)) (v : Vector s.characteristic) (k : ℕ) → sparse s.characteristic left ≡ remainder (sparse_rows s.characteristic basis)
    (lead l) v → sparse s.characteristic left k ≢ residue s.characteristic 0
    → (j : ℕ) → j < length l.places → lead l j ≢ k
other_leads s prime n basis logs l kept h left v k is_left some j u e =
    some (ap (λ w. w k) is_left ∙ ap (remainder (sparse_rows s.characteristic basis) (lead l) v) (sym e)
    ∙ remainder_at_lead (omega (arith, prime.above_one)) (sparse_rows s.characteristic basis) (lead l) h.eliminated.top.reduced v j
    (omega (arith, length-sparse_rows s.characteristic basis, h.many)))

-- the greatest place of what a row leaves, where it has terms, and the number there
pub record IsLast (p : ℕ) (left : List (ℕ × ℕ)) (k a : ℕ) : Type 0 where
  pub at : sparse p left k ≡ residue p a
  pub some : sparse p left k ≢ residue p 0
  pub beyond : (i : ℕ) → k < i → sparse p left i ≡ residue p 0

pub last_of : (p : ℕ) (left : List (ℕ × ℕ)) (j : ℕ) → IsCombo left → HasResidues p left → j + 1 ≡ length left
    → IsLast p left (get_or left j (0, 0)).0 (get_or left j (0, 0)).1
last_of p left j combo low last =
    let greatest = sparse-greatest p left combo low j last in
    record { at = sparse_at p left combo j (omega arith); some = greatest.at; beyond = greatest.beyond }

-- a multiple by an inverse of the number at a place is 1 there
pub multiple_at : (p a : ℕ) (left r : List (ℕ × ℕ)) (k : ℕ) → sparse p r ≡ residue p a ⊡ sparse p left → sparse p left k ⊗ residue p a ≡ residue p 1
    → sparse p r k ≡ residue p 1
multiple_at p a left r k is_r one = ap (λ v. v k) is_r ∙ mul_comm (residue p a) (sparse p left k) ∙ one

-- and 0 where all is 0
pub multiple_beyond : (p a : ℕ) (left r : List (ℕ × ℕ)) (i : ℕ) → sparse p r ≡ residue p a ⊡ sparse p left → sparse p left i ≡ residue p 0
    → sparse p r i ≡ residue p 0
multiple_beyond p a left r i is_r none = ap (λ v. v i) is_r ∙ ap (λ b. residue p a ⊗ b) none ∙ mul_comm (residue p a) (residue p 0)
    ∙ zero-mul (residue p a)

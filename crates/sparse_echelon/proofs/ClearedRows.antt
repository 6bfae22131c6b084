-- A place cleared from rows by one that is 1 there.
use Rattle.std.proofs.Common.{◌≡◌, ◌≢◌, ◌⊎◌, ◌+◌, ◌<◌, ◌≤◌, ℕ, List, [], length, get_or, set, inl, inr, refl, sym, ◌∙◌, ap, subst, arith, get_or-set_same, get_or-set_other, length-set}
use Rattle.std.specs.List.{Contains}
use Rattle.std.proofs.Math.Decide.{ℕ_discrete}
use Rattle.std.proofs.lemmas.List.{get_or_default}
use Rattle.linear_algebra.specs.Residue.{residue, ◌⊕◌, ◌⊗◌, opposite}
use Rattle.linear_algebra.specs.Vector.{Vector, ◌⊞◌, ◌⊡◌}
use Rattle.linear_algebra.specs.Sparse.{sparse}
use Rattle.linear_algebra.proofs.ResidueLaws.{mul_comm, one-mul, add-opposite}
use Rattle.linear_algebra.proofs.Vectors.{plus-zeros, zero-scale}
use Rattle.linear_algebra.proofs.Differences.{opposite-zero}
use Rattle.linear_algebra.proofs.Support.{zero_or_not}
use Rattle.sparse_echelon.specs.Occurrences.{IsAt}

-- a vector that is 0 at the place stays as it is
pub cleared_none : {p : ℕ} → 0 < p → (k : ℕ) (h v r : Vector p) → h k ≡ residue p 0 → v ⊞ (opposite (h k) ⊡ r) ≡ v
cleared_none positive k h v r none = ap (λ a. v ⊞ (opposite a ⊡ r)) none ∙ ap (λ a. v ⊞ (a ⊡ r)) (opposite-zero positive)
    ∙ ap (λ w. v ⊞ w) (zero-scale r) ∙ plus-zeros v

-- and one that is cleared is 0 there
pub cleared_at : {p : ℕ} → 0 < p → (k : ℕ) (v r : Vector p) → r k ≡ residue p 1 → (v ⊞ (opposite (v k) ⊡ r)) k ≡ residue p 0
cleared_at {p} positive k v r one = ap (λ a. v k ⊕ (opposite (v k) ⊗ a)) one
    ∙ ap (λ a. v k ⊕ a) (mul_comm (opposite (v k)) (residue p 1) ∙ one-mul (opposite (v k))) ∙ add-opposite positive (v k)

-- row j and its log are cleared
pub record IsCleared (p k : ℕ) (old oldlogs : List (List (ℕ × ℕ))) (r t : List (ℕ × ℕ)) (new newlogs : List (List (ℕ × ℕ))) (j : ℕ) : Type 0 where
  pub row : sparse p (get_or new j []) ≡ sparse p (get_or old j []) ⊞ (opposite (sparse p (get_or old j []) k) ⊡ sparse p r)
  pub log : sparse p (get_or newlogs j []) ≡ sparse p (get_or oldlogs j []) ⊞ (opposite (sparse p (get_or old j []) k) ⊡ sparse p t)

-- they are as they were
pub record IsKept (old oldlogs new newlogs : List (List (ℕ × ℕ))) (j : ℕ) : Type 0 where
  pub row : get_or new j [] ≡ get_or old j []
  pub log : get_or newlogs j [] ≡ get_or oldlogs j []

-- the first q of the numbered rows are cleared; each row is as it was, or cleared and its number stands at the places of r
pub record IsClearing (p k : ℕ) (old oldlogs : List (List (ℕ × ℕ))) (r t : List (ℕ × ℕ)) (numbers : List ℕ) (q : ℕ)
    (new newlogs : List (List (ℕ × ℕ))) (occurrences : List (List ℕ)) : Type 0 where
  pub many : length new ≡ length old
  pub many_logs : length newlogs ≡ length oldlogs
  pub each : (j : ℕ) → j < length old → IsKept old oldlogs new newlogs j ⊎ (IsCleared p k old oldlogs r t new newlogs j × IsAt occurrences r j)
  pub done : (i : ℕ) → i < q → IsCleared p k old oldlogs r t new newlogs (get_or numbers i 0)

-- before the first
pub clearing_start : (p k : ℕ) (old oldlogs : List (List (ℕ × ℕ))) (r t : List (ℕ × ℕ)) (numbers : List ℕ) (occurrences : List (List ℕ))
    → IsClearing p k old oldlogs r t numbers 0 old oldlogs occurrences
clearing_start p k old oldlogs r t numbers occurrences = record {
  many = refl;
  many_logs = refl;
  each = λ j l. inl
      (record { row = refl; log = refl });
  done = λ i l. absurd (omega arith);
}

-- one more
pub clearing_more : (p k : ℕ) → 0 < p → (old oldlogs : List (List (ℕ × ℕ))) (r t : List (ℕ × ℕ)) (numbers : List ℕ) (q : ℕ)
    (new newlogs : List (List (ℕ × ℕ))) (occurrences after : List (List ℕ))
    → length old ≡ length oldlogs → sparse p r k ≡ residue p 1 → IsClearing p k old oldlogs r t numbers q new newlogs occurrences
    → (m : ℕ) → get_or numbers q 0 ≡ m → m < length old → (x y : List (ℕ × ℕ))
    → sparse p x ≡ sparse p (get_or new m []) ⊞ (opposite (sparse p (get_or new m []) k) ⊡ sparse p r)
    → sparse p y ≡ sparse p (get_or newlogs m []) ⊞ (opposite (sparse p (get_or new m []) k) ⊡ sparse p t)
    → ((x ≡ get_or new m []) × (y ≡ get_or newlogs m [])) ⊎ IsAt after r m
    → ((i j : ℕ) → Contains (get_or occurrences i []) j → Contains (get_or after i []) j)
    → IsClearing p k old oldlogs r t numbers (q + 1) (set new m x) (set newlogs m y) after
clearing_more p k positive old oldlogs r t numbers q new newlogs occurrences after paired one h m at_q within x y is_x is_y listed grows = record {
  many = length-set new m x ∙ h.many;
  many_logs = length-set newlogs m y ∙ h.many_logs;
  each = λ j l. each j l (ℕ_discrete j m);
  done = λ i l. done i l (ℕ_discrete (get_or numbers i 0) m);
}
  where
    here : get_or (set new m x) m [] ≡ x
    here = get_or-set_same new m x [] (omega (arith, h.many))

    here_log : get_or (set newlogs m y) m [] ≡ y
    here_log = get_or-set_same newlogs m y [] (omega (arith, h.many_logs, paired))

    other : (j : ℕ) → j ≢ m → get_or (set new m x) j [] ≡ get_or new j []
    other j apart = get_or-set_other new m j x [] apart

    other_log : (j : ℕ) → j ≢ m → get_or (set newlogs m y) j [] ≡ get_or newlogs j []
    other_log j apart = get_or-set_other newlogs m j y [] apart

    grown : (j : ℕ) → IsAt occurrences r j → IsAt after r j
    grown j at i l = grows _ j (at i l)

    IsCleared-other : (j : ℕ) → j ≢ m → IsCleared p k old oldlogs r t new newlogs j → IsCleared p k old oldlogs r t (set new m x) (set newlogs m y) j
    IsCleared-other j apart c = record { row = ap (sparse p) (other j apart) ∙ c.row; log = ap (sparse p) (other_log j apart) ∙ c.log }

    at_m : IsKept old oldlogs new newlogs m ⊎ (IsCleared p k old oldlogs r t new newlogs m × IsAt occurrences r m)
        → IsCleared p k old oldlogs r t (set new m x) (set newlogs m y) m
    at_m (inl kept) = record {
      row = ap (sparse p) here ∙ is_x ∙ ap (λ ts. sparse p ts ⊞ (opposite (sparse p ts k) ⊡ sparse p r)) kept.row;
      log = ap (sparse p) here_log ∙ is_y ∙ ap (λ ts. sparse p ts ⊞ (opposite (sparse p (get_or new m []) k) ⊡ sparse p t)) kept.log
          ∙ ap (λ ts. sparse p (get_or oldlogs m []) ⊞ (opposite (sparse p ts k) ⊡ sparse p t)) kept.row;
    }
    at_m (inr (c, at)) =
        let none : sparse p (get_or new m []) k ≡ residue p 0 = ap (λ v. v k) c.row
        ∙ cleared_at positive k (sparse p (get_or old m [])) (sparse p r) one in
        record {
          row = ap (sparse p) here ∙ is_x ∙ cleared_none positive k (sparse p (get_or new m [])) (sparse p (get_or new m [])) (sparse p r) none
              ∙ c.row;
          log = ap (sparse p) here_log ∙ is_y ∙ cleared_none positive k (sparse p (get_or new m [])) (sparse p (get_or newlogs m []))
              (sparse p t) none ∙ c.log;
        }

    status : IsKept old oldlogs new newlogs m ⊎ (IsCleared p k old oldlogs r t new newlogs m × IsAt occurrences r m)
        → ((x ≡ get_or new m []) × (y ≡ get_or newlogs m [])) ⊎ IsAt after r m
        → IsKept old oldlogs (set new m x) (set newlogs m y) m ⊎ (IsCleared p k old oldlogs r t (set new m x) (set newlogs m y) m × IsAt after r m)
    status (inl kept) (inl (e, f)) = inl (record { row = here ∙ e ∙ kept.row; log = here_log ∙ f ∙ kept.log })
    status (inl kept) (inr at) = inr (at_m (inl kept), at)
    status (inr (c, at)) any = inr (at_m (inr (c, at)), grown m at)

    passed : (j : ℕ) → j ≢ m → IsKept old oldlogs new newlogs j ⊎ (IsCleared p k old oldlogs r t new newlogs j × IsAt occurrences r j)
        → IsKept old oldlogs (set new m x) (set newlogs m y) j ⊎ (IsCleared p k old oldlogs r t (set new m x) (set newlogs m y) j × IsAt after r j)
    passed j apart (inl kept) = inl (record { row = other j apart ∙ kept.row; log = other_log j apart ∙ kept.log })
    passed j apart (inr (c, at)) = inr (IsCleared-other j apart c, grown j at)

    each : (j : ℕ) → j < length old → Dec (j ≡ m) → IsKept old oldlogs (set new m x) (set newlogs m y) j ⊎
        (IsCleared p k old oldlogs r t (set new m x) (set newlogs m y) j × IsAt after r j)
    each j l (yes same) = subst (λ n. IsKept old oldlogs (set new m x) (set newlogs m y) n ⊎
        (IsCleared p k old oldlogs r t (set new m x) (set newlogs m y) n × IsAt after r n)) (sym same) (status (h.each m within) listed)
    each j l (no apart) = passed j apart (h.each j l)

    done : (i : ℕ) → i < q + 1 → Dec (get_or numbers i 0 ≡ m) → IsCleared p k old oldlogs r t (set new m x) (set newlogs m y) (get_or numbers i 0)
    done i l (yes same) = subst (IsCleared p k old oldlogs r t (set new m x) (set newlogs m y)) (sym same) (at_m (h.each m within))
    done i l (no apart) = IsCleared-other (get_or numbers i 0) apart
        (h.done i (elim (ℕ_discrete i q) [ yes e ↦ absurd (apart (ap (λ n. get_or numbers n 0) e ∙ at_q)) | no u ↦ omega arith ]))

-- the same, with the rows as they are read
pub clearing_step : (p k : ℕ) → 0 < p → (old oldlogs : List (List (ℕ × ℕ))) (r t : List (ℕ × ℕ)) (numbers : List ℕ) (q : ℕ)
    (new newlogs : List (List (ℕ × ℕ))) (occurrences after : List (List ℕ))
    → length old ≡ length oldlogs → sparse p r k ≡ residue p 1 → IsClearing p k old oldlogs r t numbers q new newlogs occurrences
    → (m : ℕ) → get_or numbers q 0 ≡ m → m < length old → (d e x y : List (ℕ × ℕ))
    → sparse p x ≡ sparse p (get_or new m d) ⊞ (opposite (sparse p (get_or new m d) k) ⊡ sparse p r)
    → sparse p y ≡ sparse p (get_or newlogs m e) ⊞ (opposite (sparse p (get_or new m d) k) ⊡ sparse p t)
    → ((x ≡ get_or new m d) × (y ≡ get_or newlogs m e)) ⊎ IsAt after r m
    → ((i j : ℕ) → Contains (get_or occurrences i []) j → Contains (get_or after i []) j)
    → IsClearing p k old oldlogs r t numbers (q + 1) (set new m x) (set newlogs m y) after
clearing_step p k positive old oldlogs r t numbers q new newlogs occurrences after paired one h m at_q within d e x y is_x is_y listed grows =
    let row : get_or new m d ≡ get_or new m [] = get_or_default new m d [] (omega (arith, h.many)) in
    let log : get_or newlogs m e ≡ get_or newlogs m [] = get_or_default newlogs m e [] (omega (arith, h.many_logs, paired)) in
    clearing_more p k positive old oldlogs r t numbers q new newlogs occurrences after paired one h m at_q within x y
    (is_x ∙ ap (λ ts. sparse p ts ⊞ (opposite (sparse p ts k) ⊡ sparse p r)) row)
    (is_y ∙ ap (λ ts. sparse p ts ⊞ (opposite (sparse p (get_or new m d) k) ⊡ sparse p t)) log
    ∙ ap (λ ts. sparse p (get_or newlogs m []) ⊞ (opposite (sparse p ts k) ⊡ sparse p t)) row)
    (elim listed [ inl both ↦ inl (both.0 ∙ row, both.1 ∙ log) | inr at ↦ inr at ]) grows

-- after the last, where the numbers are those of all rows that are not 0 at the place
pub clearing_end : (p k : ℕ) → 0 < p → (old oldlogs : List (List (ℕ × ℕ))) (r t : List (ℕ × ℕ)) (numbers : List ℕ) (q : ℕ)
    (new newlogs : List (List (ℕ × ℕ))) (occurrences : List (List ℕ))
    → IsClearing p k old oldlogs r t numbers q new newlogs occurrences → length numbers ≤ q
    → ((j : ℕ) → j < length old → sparse p (get_or old j []) k ≢ residue p 0 → Contains numbers j)
    → (j : ℕ) → j < length old → IsCleared p k old oldlogs r t new newlogs j
clearing_end p k positive old oldlogs r t numbers q new newlogs occurrences h last found j l = by_status (h.each j l)
  where
    kept : IsKept old oldlogs new newlogs j → (sparse p (get_or old j []) k ≡ residue p 0) ⊎ (sparse p (get_or old j []) k ≢ residue p 0)
        → IsCleared p k old oldlogs r t new newlogs j
    kept same (inl none) = record {
      row = ap (sparse p) same.row ∙ sym (cleared_none positive k (sparse p (get_or old j [])) (sparse p (get_or old j [])) (sparse p r) none);
      log = ap (sparse p) same.log ∙ sym (cleared_none positive k (sparse p (get_or old j [])) (sparse p (get_or oldlogs j [])) (sparse p t) none);
    }
    kept same (inr some) =
        let (i, u, e) = found j l some in
        subst (IsCleared p k old oldlogs r t new newlogs) (get_or_default numbers i 0 j u ∙ e) (h.done i (omega arith))

    by_status : IsKept old oldlogs new newlogs j ⊎ (IsCleared p k old oldlogs r t new newlogs j × IsAt occurrences r j)
        → IsCleared p k old oldlogs r t new newlogs j
    by_status (inl same) = kept same (zero_or_not (sparse p (get_or old j []) k))
    by_status (inr (c, at)) = c

-- and each row is the vector that it was, or its number stands at the places of r
pub clearing_listed : (p k : ℕ) (old oldlogs : List (List (ℕ × ℕ))) (r t : List (ℕ × ℕ)) (numbers : List ℕ) (q : ℕ)
    (new newlogs : List (List (ℕ × ℕ))) (occurrences : List (List ℕ))
    → IsClearing p k old oldlogs r t numbers q new newlogs occurrences → (j : ℕ) → j < length old
    → (sparse p (get_or new j []) ≡ sparse p (get_or old j [])) ⊎ IsAt occurrences r j
clearing_listed p k old oldlogs r t numbers q new newlogs occurrences h j l = elim (h.each j l) [
  | inl same ↦ inl (ap (sparse p) same.row)
  | inr both ↦ inr both.1
]

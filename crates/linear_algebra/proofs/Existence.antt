-- Rows of a width have a basis reduced from the top, with the list of kept rows, so that reductions, traces and coordinates exist.
use Rattle.std.proofs.Common.{◌≡◌, ◌⊎◌, ◌+◌, ◌<◌, ◌≤◌, ℕ, zero, suc, List, [], ◌∷◌, ◌++◌, length, take, Bool, true, false, cond, nat_lt, refl, sym, ◌∙◌, ap, subst, inl, inr, arith, add-one, length-append, ltb-true}
use Rattle.std.proofs.lemmas.List.{length-take-le}
use Rattle.linear_algebra.specs.Residue.{Residue, residue, ◌⊗◌, opposite}
use Rattle.linear_algebra.specs.Prime.{IsPrime}
use Rattle.linear_algebra.specs.Vector.{Vector, ◌⊞◌, ◌⊡◌, zeros, combination, minus, EndsBefore}
use Rattle.linear_algebra.specs.Span.{Each, row, InSpan, Congruent, IsBasis}
use Rattle.linear_algebra.specs.Echelon.{IsGreatestPlace, IsTopBasis, remainder}
use Rattle.linear_algebra.specs.Coordinates.{unit, IsKept, IsReduction, AreKeptCoefficients, IsCoordinates, free_places}
use Rattle.linear_algebra.specs.Elimination.{IsEliminated}
use Rattle.linear_algebra.proofs.ResidueLaws
use Rattle.linear_algebra.proofs.Support.{greatest_or_zeros, EndsBefore-minus, EndsBefore-InSpan}
use Rattle.linear_algebra.proofs.Rows.{row-append, row_last, row-take}
use Rattle.linear_algebra.proofs.Spans.{Each-rows, InSpan-trans, InSpan-row, InSpan-combination}
use Rattle.linear_algebra.proofs.Pivots.{independent_from_top}
use Rattle.linear_algebra.proofs.Elimination.{eliminated_none, eliminated_all, eliminated_spanned, eliminated_kept, trace_of_remainder}
use Rattle.linear_algebra.proofs.Congruence.{Congruent-zeros, InSpan_from_Congruent}
use Rattle.linear_algebra.proofs.Reductions.{reduction_once, remainder_is_reduction}
use Rattle.linear_algebra.proofs.Coordinates.{entries_at, coordinates_of_reduction}

-- what elimination of the first n rows gives
pub record Eliminated {p : ℕ} (rows : List (Vector p)) (n : ℕ) : Type 0 where
  pub basis : List (Vector p)
  pub logs : List (Vector p)
  pub lead : ℕ → ℕ
  pub kept : List ℕ
  pub done : IsEliminated rows n basis logs lead kept

-- each row with s taken from it until it is 0 at k, and each log with t as often
cleared : {p : ℕ} → ℕ → Vector p → List (Vector p) → List (Vector p)
cleared k s [] = []
cleared k s (v ∷ basis) = (v ⊞ (opposite (v k) ⊡ s)) ∷ cleared k s basis

-- and each log with t taken as often
cleared_logs : {p : ℕ} → ℕ → Vector p → List (Vector p) → List (Vector p) → List (Vector p)
cleared_logs k t [] logs = []
cleared_logs k t (v ∷ basis) [] = []
cleared_logs k t (v ∷ basis) (l ∷ logs) = (l ⊞ (opposite (v k) ⊡ t)) ∷ cleared_logs k t basis logs

-- clearing leaves the number of rows
length-cleared : {p : ℕ} (k : ℕ) (s : Vector p) (basis : List (Vector p)) → length (cleared k s basis) ≡ length basis
unfolding cleared
length-cleared k s [] = refl
length-cleared k s (v ∷ basis) = ap suc (length-cleared k s basis)

-- row j after clearing
row-cleared : {p : ℕ} (k : ℕ) (s : Vector p) (basis : List (Vector p)) (j : ℕ) → j < length basis
    → row (cleared k s basis) j ≡ row basis j ⊞ (opposite (row basis j k) ⊡ s)
unfolding cleared
row-cleared k s [] j l = absurd (omega arith)
row-cleared k s (v ∷ basis) zero l = refl
row-cleared k s (v ∷ basis) (suc j) l = row-cleared k s basis j (omega arith)

-- and the number of logs
length-cleared_logs : {p : ℕ} (k : ℕ) (t : Vector p) (basis logs : List (Vector p)) → length logs ≡ length basis
    → length (cleared_logs k t basis logs) ≡ length basis
unfolding cleared_logs
length-cleared_logs k t [] logs e = refl
length-cleared_logs k t (v ∷ basis) [] e = absurd (omega arith)
length-cleared_logs k t (v ∷ basis) (l ∷ logs) e = ap suc (length-cleared_logs k t basis logs (omega arith))

-- log j after clearing
row-cleared_logs : {p : ℕ} (k : ℕ) (t : Vector p) (basis logs : List (Vector p)) → length logs ≡ length basis → (j : ℕ) → j < length basis
    → row (cleared_logs k t basis logs) j ≡ row logs j ⊞ (opposite (row basis j k) ⊡ t)
unfolding cleared_logs
row-cleared_logs k t [] logs e j u = absurd (omega arith)
row-cleared_logs k t (v ∷ basis) [] e j u = absurd (omega arith)
row-cleared_logs k t (v ∷ basis) (l ∷ logs) e zero u = refl
row-cleared_logs k t (v ∷ basis) (l ∷ logs) e (suc j) u = row-cleared_logs k t basis logs (omega arith) j (omega arith)

-- the leads with one more
leads_more : (ℕ → ℕ) → ℕ → ℕ → ℕ → ℕ
leads_more lead n k j = cond (nat_lt j n) (lead j) k

-- the earlier leads stay
leads_more-before : (lead : ℕ → ℕ) (n k j : ℕ) → j < n → leads_more lead n k j ≡ lead j
unfolding leads_more
leads_more-before lead n k j l = at (nat_lt j n) refl
  where
    at : (t : Bool) → nat_lt j n ≡ t → cond t (lead j) k ≡ lead j
    at true e = refl
    at false e = absurd (grind (arith, e, l))

-- and the last is k
leads_more-last : (lead : ℕ → ℕ) (n k : ℕ) → leads_more lead n k n ≡ k
unfolding leads_more
leads_more-last lead n k = at (nat_lt n n) refl
  where
    at : (t : Bool) → nat_lt n n ≡ t → cond t (lead n) k ≡ k
    at true e = absurd (let w : n < n = ltb-true n n e in omega arith)
    at false e = refl

module _ {p : ℕ} (prime : IsPrime p) (d : ℕ) (rows : List (Vector p)) (ends : Each (EndsBefore d) rows) where
  -- each row has length d
  row_ends : (j : ℕ) → j < length rows → EndsBefore d (row rows j)
  row_ends j l = EndsBefore-InSpan d rows (row rows j) ends (InSpan-row rows j l)

  -- one row more can be eliminated
  step : (n : ℕ) → n < length rows → Eliminated rows n → Eliminated rows (n + 1)
  step n l e = by_support (greatest_or_zeros d y short)
    where
      y : Vector p
      y = remainder e.basis e.lead (row rows n)

      basis_ends : EndsBefore d (combination (λ j. row rows n (e.lead j)) e.basis)
      basis_ends = EndsBefore-InSpan d (take n rows) (combination (λ j. row rows n (e.lead j)) e.basis)
          (Each-rows (EndsBefore d) (take n rows) (λ j u. let w : j < n = omega (arith, u, length-take-le n rows (omega arith)) in subst
          (EndsBefore d) (sym (row-take n rows j w)) (row_ends j (omega arith))))
          (InSpan-combination (take n rows) e.basis (λ j. row rows n (e.lead j)) e.done.top.inside)

      short : EndsBefore d y
      short = EndsBefore-minus (omega (arith, prime.above_one)) d (row rows n) (combination (λ j. row rows n (e.lead j)) e.basis) (row_ends n l)
          basis_ends

      by_inverse : (k : ℕ) → IsGreatestPlace y k → (y k ≡ residue p 0) ⊎ ((b : Residue p) × (y k ⊗ b ≡ residue p 1)) → Eliminated rows (n + 1)
      by_inverse k g (inl z) = absurd (g.at z)
      by_inverse k g (inr (b, one)) =
          let s = b ⊡ y in
          let t = b ⊡ minus (unit n) (combination (λ j. row rows n (e.lead j)) e.logs) in
          let new = cleared k s e.basis ++ s ∷ [] in
          let newlogs = cleared_logs k t e.basis e.logs ++ t ∷ [] in
          let lead = leads_more e.lead (length e.basis) k in
          let sized : length (cleared k s e.basis) ≡ length e.basis = length-cleared k s e.basis in
          let logs_sized : length (cleared_logs k t e.basis e.logs) ≡ length e.basis = length-cleared_logs k t e.basis e.logs e.done.logged in
          record {
            basis = new;
            logs = newlogs;
            lead = lead;
            kept = e.kept ++ n ∷ [];
            done = eliminated_kept prime rows n e.basis e.logs e.lead e.kept e.done l k b (ResidueLaws.mul_comm b (y k) ∙ one) g.beyond s t refl refl
                new newlogs lead
                (omega (arith, length-append (cleared k s e.basis) (s ∷ []), sized))
                (λ j u. row-append (cleared k s e.basis) (s ∷ []) j (omega (arith, sized)) ∙ row-cleared k s e.basis j u)
                (ap (row new) (sym sized) ∙ row_last (cleared k s e.basis) s)
                (omega (arith, length-append (cleared_logs k t e.basis e.logs) (t ∷ []), logs_sized))
                (λ j u. row-append (cleared_logs k t e.basis e.logs) (t ∷ []) j (omega (arith, logs_sized))
                ∙ row-cleared_logs k t e.basis e.logs e.done.logged j u)
                (ap (row newlogs) (sym logs_sized) ∙ row_last (cleared_logs k t e.basis e.logs) t)
                (leads_more-before e.lead (length e.basis) k) (leads_more-last e.lead (length e.basis) k);
          }

      by_support : (y ≡ zeros) ⊎ ((k : ℕ) × (k < d) × IsGreatestPlace y k) → Eliminated rows (n + 1)
      by_support (inl z) = record {
        basis = e.basis;
        logs = e.logs;
        lead = e.lead;
        kept = e.kept;
        done =
            eliminated_spanned prime rows n e.basis e.logs e.lead e.kept e.done l z;
      }
      by_support (inr (k, u, g)) = by_inverse k g (ResidueLaws.zero_or_inverse prime (y k))

  -- so can the first n rows
  steps : (n : ℕ) → n ≤ length rows → Eliminated rows n
  steps zero l = record { basis = []; logs = []; lead = λ j. 0; kept = []; done = eliminated_none rows (λ j. 0) }
  steps (suc n) l = subst (Eliminated rows) (add-one n) (step n (omega arith) (steps n (omega arith)))

  -- all rows can be eliminated
  pub eliminated : Eliminated rows (length rows)
  eliminated = steps (length rows) (omega arith)

  -- the basis that elimination gives
  pub top : IsTopBasis rows eliminated.basis eliminated.lead
  unfolding eliminated
  top = eliminated_all rows eliminated.basis eliminated.logs eliminated.lead eliminated.kept eliminated.done

  -- rows have a basis
  pub basis_exists : (basis : List (Vector p)) × IsBasis rows basis
  basis_exists = (
    eliminated.basis,
    record {
      independent = independent_from_top eliminated.basis eliminated.lead top.reduced;
      same = record {
        forth = λ v h. InSpan-trans eliminated.basis rows v top.spans h;
        back =
            λ v h. InSpan-trans rows eliminated.basis v top.inside h;
      };
    },
  )

  -- each vector has a reduction
  pub reduction_exists : (x : Vector p) → (y : Vector p) × IsReduction rows x y
  reduction_exists x = (
    remainder eliminated.basis eliminated.lead x,
    remainder_is_reduction (omega (arith, prime.above_one)) rows eliminated.basis
        eliminated.lead top x,
  )

  -- and coefficients over kept rows that give the difference
  pub trace_exists : (x y : Vector p) → IsReduction rows x y → (c : Vector p) × AreKeptCoefficients rows x y c
  trace_exists x y h =
      let c = combination (λ j. x (eliminated.lead j)) eliminated.logs in
      let same : remainder eliminated.basis eliminated.lead x ≡ y = reduction_once (omega (arith, prime.above_one)) d rows ends x
      (remainder eliminated.basis eliminated.lead x) y (remainder_is_reduction (omega (arith, prime.above_one)) rows eliminated.basis
      eliminated.lead top x) h in (
        c,
        subst (λ z. AreKeptCoefficients rows x z c) same (trace_of_remainder prime rows (length rows) eliminated.basis eliminated.logs
            eliminated.lead eliminated.kept eliminated.done x),
      )

  -- a vector of length d has coordinates
  pub coordinates_exist : (x : Vector p) → EndsBefore d x → (c : Vector p) × IsCoordinates d rows x c
  coordinates_exist x short =
      let y = remainder eliminated.basis eliminated.lead x in
      let h : IsReduction rows x y = remainder_is_reduction (omega (arith, prime.above_one)) rows eliminated.basis eliminated.lead top x in
      let y_ends : EndsBefore d y = EndsBefore-minus (omega (arith, prime.above_one)) d x (combination (λ j. x (eliminated.lead j)) eliminated.basis)
      short
      (EndsBefore-InSpan d rows (combination (λ j. x (eliminated.lead j)) eliminated.basis) ends
      (InSpan-combination rows eliminated.basis (λ j. x (eliminated.lead j)) top.inside)) in
      (entries_at (free_places d rows) y, coordinates_of_reduction (omega (arith, prime.above_one)) d rows ends x y y_ends h)

  -- a vector of length d is in the span or not
  pub in_span_or_not : (v : Vector p) → EndsBefore d v → InSpan rows v ⊎ (InSpan rows v → ⊥)
  in_span_or_not v short = by_support (greatest_or_zeros d y y_ends)
    where
      positive : 0 < p
      positive = omega (arith, prime.above_one)

      y : Vector p
      y = remainder eliminated.basis eliminated.lead v

      h : IsReduction rows v y
      h = remainder_is_reduction positive rows eliminated.basis eliminated.lead top v

      y_ends : EndsBefore d y
      y_ends = EndsBefore-minus positive d v (combination (λ j. v (eliminated.lead j)) eliminated.basis) short
          (EndsBefore-InSpan d rows (combination (λ j. v (eliminated.lead j)) eliminated.basis) ends
          (InSpan-combination rows eliminated.basis (λ j. v (eliminated.lead j)) top.inside))

      by_support : (y ≡ zeros) ⊎ ((k : ℕ) × (k < d) × IsGreatestPlace y k) → InSpan rows v ⊎ (InSpan rows v → ⊥)
      by_support (inl z) = inl (InSpan_from_Congruent positive rows v (subst (Congruent rows v) z h.congruent))
      by_support (inr (k, l, g)) = inr (λ held. g.at (ap (λ w. w k)
          (reduction_once positive d rows ends v y zeros h (record { congruent = Congruent-zeros positive rows v held; free = λ i b. refl }))))

-- a row is kept or not
pub kept_or_not : {p : ℕ} → IsPrime p → (d : ℕ) (rows : List (Vector p)) → Each (EndsBefore d) rows → (i : ℕ) → i < length rows
    → IsKept rows i ⊎ InSpan (take i rows) (row rows i)
kept_or_not {p} prime d rows ends i l = by_span (in_span_or_not prime d (take i rows)
    (Each-rows (EndsBefore d) (take i rows) (λ j u. at j (omega (arith, u, length-take-le i rows (omega arith))))) (row rows i)
    (row_ends prime d rows ends i l))
  where
    at : (j : ℕ) → j < i → EndsBefore d (row (take i rows) j)
    at j u = subst (EndsBefore d) (sym (row-take i rows j u)) (row_ends prime d rows ends j (omega arith))

    by_span : InSpan (take i rows) (row rows i) ⊎ (InSpan (take i rows) (row rows i) → ⊥) → IsKept rows i ⊎ InSpan (take i rows) (row rows i)
    by_span (inl h) = inr h
    by_span (inr n) = inl (record { within = l; apart = n })

-- Elimination step by step: a row whose remainder is 0 adds nothing, and any other is kept and gives one more row of the basis.
use Rattle.std.proofs.Common.{◌≡◌, ◌≢◌, ◌⊎◌, ◌+◌, ◌<◌, ◌≤◌, ℕ, zero, suc, List, [], ◌∷◌, ◌++◌, length, take, get_or, map, refl, sym, ◌∙◌, ap, subst, inl, inr, arith, length-append}
use Rattle.std.proofs.Math.Decide.{ℕ_discrete}
use Rattle.std.proofs.Math.ListN.{length-map, get_or-append}
use Rattle.std.proofs.Math.Seq.{take-length}
use Rattle.std.proofs.lemmas.Bool.{cases_lt}
use Rattle.std.proofs.lemmas.List.{length-take-le, get_or_push}
use Rattle.std.proofs.lemmas.List.Elements.{All-push, All-weaker, All-get_or, All-nil, Contains-push, Contains-append_left}
use Rattle.std.specs.List.{Contains}
use Rattle.linear_algebra.specs.Residue.{Residue, residue, ◌⊗◌, opposite}
use Rattle.linear_algebra.specs.Prime.{IsPrime}
use Rattle.linear_algebra.specs.Vector.{Vector, ◌⊞◌, ◌⊡◌, zeros, tail, combination, minus}
use Rattle.linear_algebra.specs.Span.{Each, none, more, row, InSpan}
use Rattle.linear_algebra.specs.Echelon.{IsReducedFromTop, IsTopBasis, remainder}
use Rattle.linear_algebra.specs.Coordinates.{unit, IsKept, IsKeptList, IsOverKept, AreKeptCoefficients}
use Rattle.linear_algebra.specs.Elimination.{IsEliminated}
use Rattle.linear_algebra.proofs.ResidueLaws
use Rattle.linear_algebra.proofs.Vectors.{plus-zeros, zeros-plus, zero-scale, one-scale, scale-scale, combination-plus, combination-scale, combination-zeros, combination-combinations}
use Rattle.linear_algebra.proofs.Differences.{minus_twice, combination-minus}
use Rattle.linear_algebra.proofs.Rows.{combination_same, row-get_or, row-map, row-take, same_rows}
use Rattle.linear_algebra.proofs.Spans.{Each-rows, Each-weaker, InSpan-row, InSpan-scale, InSpan-combination, InSpan-trans}
use Rattle.linear_algebra.proofs.Congruence.{InSpan-Congruent, InSpan-minus, Congruent-more}
use Rattle.linear_algebra.proofs.Pivots.{zero_at_leads, leads_differ}
use Rattle.linear_algebra.proofs.Reducing.{remainder_at_lead, Congruent_remainder, reduced_more, InSpan_new, Each-InSpan_new, Each-InSpan_old}
use Rattle.linear_algebra.proofs.KeptRows.{IsOverKept-plus, IsOverKept-scale, IsOverKept-minus, IsOverKept-combination}
use Rattle.linear_algebra.proofs.Coordinates.{unit_at, unit_elsewhere}

-- the combination by the coefficient 1 of one row is that row
pub combination_one : {p : ℕ} (c : Vector p) (rows : List (Vector p)) (n : ℕ) → n < length rows → c n ≡ residue p 1
    → ((j : ℕ) → j < length rows → j ≢ n → c j ≡ residue p 0) → combination c rows ≡ row rows n
combination_one c [] n l one others = absurd (omega arith)
combination_one c (r ∷ rows) zero l one others =
    ap (λ v. (c 0 ⊡ r) ⊞ v) (combination_same (tail c) zeros rows (λ j u. others (suc j) (omega arith) (omega arith)) ∙ combination-zeros rows)
    ∙ plus-zeros (c 0 ⊡ r) ∙ ap (λ a. a ⊡ r) one ∙ one-scale r
combination_one c (r ∷ rows) (suc n) l one others =
    ap (λ v. (c 0 ⊡ r) ⊞ v) (combination_one (tail c) rows n (omega arith) one (λ j v u. others (suc j) (omega arith) (omega arith)))
    ∙ ap (λ a. (a ⊡ r) ⊞ row rows n) (others 0 (omega arith) (omega arith)) ∙ ap (λ v. v ⊞ row rows n) (zero-scale r) ∙ zeros-plus (row rows n)

-- the combination by the unit vector at n is row n
pub combination-unit : {p : ℕ} (rows : List (Vector p)) (n : ℕ) → n < length rows → combination (unit n) rows ≡ row rows n
combination-unit rows n l = combination_one (unit n) rows n l (unit_at n) (λ j v u. unit_elsewhere n j (λ e. u (sym e)))

-- what the first m rows span, the first n do, for m at most n
pub InSpan-take : {p : ℕ} (m n : ℕ) (rows : List (Vector p)) (v : Vector p) → m ≤ n → n ≤ length rows → InSpan (take m rows) v
    → InSpan (take n rows) v
InSpan-take m n rows v l u h = InSpan-trans (take n rows) (take m rows) v
    (Each-rows (InSpan (take n rows)) (take m rows) (λ j w. at j (omega (arith, w, length-take-le m rows (omega arith))))) h
  where
    at : (j : ℕ) → j < m → InSpan (take n rows) (row (take m rows) j)
    at j w = subst (InSpan (take n rows)) (row-take n rows j (omega arith) ∙ sym (row-take m rows j w))
        (InSpan-row (take n rows) j (omega (arith, length-take-le n rows u)))

-- what holds of the first n rows and of row n holds of the first n + 1
Each-take : {p : ℕ} (P : Vector p → Type 0) (n : ℕ) (rows : List (Vector p)) → n < length rows → ((j : ℕ) → j < n → P (row rows j)) → P (row rows n)
    → Each P (take (n + 1) rows)
Each-take P n rows l before here = Each-rows P (take (n + 1) rows) (λ j u. at j (omega (arith, u, length-take-le (n + 1) rows (omega arith))))
  where
    at : (j : ℕ) → j < n + 1 → P (row (take (n + 1) rows) j)
    at j u = subst P (sym (row-take (n + 1) rows j u)) (elim (ℕ_discrete j n)
        [ yes same ↦ subst (λ m. P (row rows m)) (sym same) here | no other ↦ before j (omega arith) ])

-- what holds of each holds by the number
pub Each-row : {p : ℕ} {P : Vector p → Type 0} (rows : List (Vector p)) → Each P rows → (j : ℕ) → j < length rows → P (row rows j)
Each-row [] none j l = absurd (omega arith)
Each-row (r ∷ rows) (more h hs) zero l = h
Each-row (r ∷ rows) (more h hs) (suc j) l = Each-row rows hs j (omega arith)

-- after the last row the basis is one of all rows
pub eliminated_all : {p : ℕ} (rows basis logs : List (Vector p)) (lead : ℕ → ℕ) (kept : List ℕ) → IsEliminated rows (length rows) basis logs lead kept
    → IsTopBasis rows basis lead
eliminated_all rows basis logs lead kept e = subst (λ r. IsTopBasis r basis lead) (take-length rows) e.top

-- a row reduced from the top is the unit vector at its lead less the remainder of that
pub row_of_lead : {p : ℕ} → IsPrime p → (basis : List (Vector p)) (lead : ℕ → ℕ) → IsReducedFromTop basis lead → (j : ℕ) → j < length basis
    → minus (unit (lead j)) (remainder basis lead (unit (lead j))) ≡ row basis j
row_of_lead {p} prime basis lead e j l = minus_twice (omega (arith, prime.above_one)) (unit (lead j))
    (combination (λ i. unit (lead j) (lead i)) basis)
    ∙ combination_one (λ i. unit (lead j) (lead i)) basis j l (unit_at (lead j))
    (λ i u n. unit_elsewhere (lead j) (lead i) (leads_differ prime basis lead e j i l u (λ same. n (sym same))))

-- before the first row
pub eliminated_none : {p : ℕ} (rows : List (Vector p)) (lead : ℕ → ℕ) → IsEliminated rows 0 [] [] lead []
eliminated_none rows lead = record {
  within = omega arith;
  top = record {
    reduced = record {
      one_at = λ j l. absurd (omega arith);
      beyond = λ j l. absurd (omega arith);
      alone =
          λ i j l. absurd (omega arith);
    };
    inside = none;
    spans = none;
  };
  logged = refl;
  adds_up = λ j l. absurd (omega arith);
  over_kept = λ j l. absurd (omega arith);
  kept_rows = record {
    rising = λ k l. absurd (omega arith);
    below = All-nil (λ i. i < 0);
    only = λ q l. absurd (omega arith);
    all =
        λ i l. absurd (omega arith);
  };
  as_many = refl;
}

-- one kept row more
KeptList-push : {p : ℕ} (rows : List (Vector p)) (n : ℕ) (kept : List ℕ) → IsKeptList rows n kept → IsKept rows n
    → IsKeptList rows (n + 1) (kept ++ n ∷ [])
KeptList-push rows n kept h k = record {
  rising = λ q l. rising q l (cases_lt (q + 1) (length kept));
  below = All-push (λ i. i < n + 1) kept n (All-weaker (λ i. i < n) (λ i. i < n + 1) (λ i u. omega arith) kept h.below) (omega arith);
  only = λ q l. only q (cases_lt q (length kept)) l;
  all = λ i u w. elim (ℕ_discrete i n) [
    | yes same ↦ subst (Contains (kept ++ n ∷ [])) (sym same) (Contains-push kept n)
    | no other ↦ Contains-append_left kept (n ∷ []) i (h.all i (omega arith) w)
  ];
}
  where
    sized : length (kept ++ n ∷ []) ≡ length kept + 1
    sized = length-append kept (n ∷ [])

    rising : (q : ℕ) → q + 1 < length (kept ++ n ∷ []) → (q + 1 < length kept) ⊎ (length kept ≤ q + 1)
        → get_or (kept ++ n ∷ []) q 0 < get_or (kept ++ n ∷ []) (q + 1) 0
    rising q l (inl u) = rw (get_or-append kept (n ∷ []) 0 q (omega arith), get_or-append kept (n ∷ []) 0 (q + 1) u) (h.rising q u)
    rising q l (inr u) = rw (get_or-append kept (n ∷ []) 0 q (omega (arith, sized)), get_or_push kept n 0 (q + 1) (omega (arith, sized)))
        (All-get_or (λ i. i < n) kept q 0 (omega (arith, sized)) h.below)

    only : (q : ℕ) → (q < length kept) ⊎ (length kept ≤ q) → q < length (kept ++ n ∷ []) → IsKept rows (get_or (kept ++ n ∷ []) q 0)
    only q (inl u) l = subst (IsKept rows) (sym (get_or-append kept (n ∷ []) 0 q u)) (h.only q u)
    only q (inr u) l = subst (IsKept rows) (sym (get_or_push kept n 0 q (omega (arith, sized)))) k

module _ {p : ℕ} (prime : IsPrime p) (rows : List (Vector p)) (n : ℕ) (basis logs : List (Vector p)) (lead : ℕ → ℕ) (kept : List ℕ)
    (e : IsEliminated rows n basis logs lead kept) where
  -- a prime is above 0
  positive : 0 < p
  positive = omega (arith, prime.above_one)

  -- the rows by the coefficients of the logs are the basis
  pub map-logs : map (λ l. combination l rows) logs ≡ basis
  map-logs = same_rows (map (λ l. combination l rows) logs) basis (length-map logs (λ l. combination l rows) ∙ e.logged)
      (λ j u. let w : j < length logs = subst (λ m. j < m) (length-map logs (λ l. combination l rows)) u in row-map (λ l. combination l rows) logs j
      zeros w ∙ ap (λ l. combination l rows) (sym (row-get_or logs j)) ∙ e.adds_up j (omega (arith, e.logged)))

  -- so the combination of the logs gives the combination of the basis
  pub combination-logs : (c : Vector p) → combination (combination c logs) rows ≡ combination c basis
  combination-logs c = sym (combination-combinations c logs rows) ∙ ap (combination c) map-logs

  -- and its coefficients are over kept rows
  pub IsOverKept-logs : (c : Vector p) → IsOverKept rows (combination c logs)
  IsOverKept-logs c = IsOverKept-combination rows c logs (Each-rows (IsOverKept rows) logs (λ j u. e.over_kept j (omega (arith, e.logged))))

  -- the combination of the logs by the entries at the leads is the trace of a remainder
  pub trace_of_remainder : (x : Vector p) → AreKeptCoefficients rows x (remainder basis lead x) (combination (λ j. x (lead j)) logs)
  trace_of_remainder x = record {
    over_kept = IsOverKept-logs (λ j. x (lead j));
    adds_up = combination-logs (λ j. x (lead j))
        ∙ sym (minus_twice positive x (combination (λ j. x (lead j)) basis));
  }

  module _ (l : n < length rows) where
    -- row n and the vectors of the span of the rows before it
    spanned_before : InSpan basis (row rows n) → InSpan (take n rows) (row rows n)
    spanned_before h = InSpan-trans (take n rows) basis (row rows n) e.top.inside h

    inside_more : Each (InSpan (take (n + 1) rows)) basis
    inside_more = Each-weaker basis (λ v h. InSpan-take n (n + 1) rows v (omega arith) (omega arith) h) e.top.inside

    spans_before : (j : ℕ) → j < n → InSpan basis (row rows j)
    spans_before j u = subst (InSpan basis) (row-take n rows j u) (Each-row (take n rows) e.top.spans j
        (omega (arith, length-take-le n rows e.within)))

    -- a row whose remainder is 0 adds nothing
    pub eliminated_spanned : remainder basis lead (row rows n) ≡ zeros → IsEliminated rows (n + 1) basis logs lead kept
    eliminated_spanned z = record {
      within = omega arith;
      top = record { reduced = e.top.reduced; inside = inside_more; spans = Each-take (InSpan basis) n rows l spans_before held };
      logged = e.logged;
      adds_up = e.adds_up;
      over_kept = e.over_kept;
      kept_rows = record {
        rising = e.kept_rows.rising;
        below = All-weaker (λ i. i < n) (λ i. i < n + 1) (λ i u. omega arith) kept e.kept_rows.below;
        only = e.kept_rows.only;
        all = λ i u k. elim (ℕ_discrete i n) [
          | yes same ↦ absurd ((subst (IsKept rows) same k).apart (spanned_before held))
          | no other ↦
              e.kept_rows.all i (omega arith) k
        ];
      };
      as_many = e.as_many;
    }
      where
        held : InSpan basis (row rows n)
        held = InSpan-Congruent positive basis (row rows n) (remainder basis lead (row rows n)) (Congruent_remainder positive basis lead (row rows n))
            (subst (InSpan basis) (sym z) (record { coefficients = zeros; is_combination = sym (combination-zeros basis) }))

    -- a row whose remainder has the greatest place k is kept
    pub kept_from_remainder : (k : ℕ) → remainder basis lead (row rows n) k ≢ residue p 0 → IsKept rows n
    kept_from_remainder k some = record {
      within = l;
      apart = λ h. some (ap (λ v. v k) (zero_at_leads basis lead e.top.reduced (remainder basis lead (row rows n))
          (InSpan-minus positive basis (row rows n) (combination (λ j. row rows n (lead j)) basis)
          (InSpan-trans basis (take n rows) (row rows n) e.top.spans h)
          (record { coefficients = λ j. row rows n (lead j); is_combination = refl }))
          (λ j u. remainder_at_lead positive basis lead e.top.reduced (row rows n) j u)));
    }

    -- the multiple of the remainder that is 1 at its greatest place joins the basis, and is taken from the other rows until they are 0 there
    module _ (k : ℕ) (b : Residue p) (one : b ⊗ remainder basis lead (row rows n) k ≡ residue p 1)
        (beyond : (i : ℕ) → k < i → remainder basis lead (row rows n) i ≡ residue p 0)
        (s t : Vector p) (is_s : s ≡ b ⊡ remainder basis lead (row rows n))
        (is_t : t ≡ b ⊡ minus (unit n) (combination (λ j. row rows n (lead j)) logs))
        (new newlogs : List (Vector p)) (lead' : ℕ → ℕ)
        (sized : length new ≡ suc (length basis)) (old : (j : ℕ) → j < length basis → row new j ≡ row basis j ⊞ (opposite (row basis j k) ⊡ s))
        (last : row new (length basis) ≡ s)
        (logs_sized : length newlogs ≡ suc (length basis)) (logs_old : (j : ℕ) → j < length basis
        → row newlogs j ≡ row logs j ⊞ (opposite (row basis j k) ⊡ t)) (logs_last : row newlogs (length basis) ≡ t)
        (same : (j : ℕ) → j < length basis → lead' j ≡ lead j) (added : lead' (length basis) ≡ k) where
      is_kept : IsKept rows n
      is_kept = kept_from_remainder k (λ z. ResidueLaws.one≢zero prime
          (sym one ∙ ap (λ a. b ⊗ a) z ∙ ResidueLaws.mul_comm b (residue p 0) ∙ ResidueLaws.zero-mul b))

      multiple : (i : ℕ) → remainder basis lead (row rows n) i ≡ residue p 0 → s i ≡ residue p 0
      multiple i z = ap (λ v. v i) is_s ∙ ap (λ a. b ⊗ a) z ∙ ResidueLaws.mul_comm b (residue p 0) ∙ ResidueLaws.zero-mul b

      s_one : s k ≡ residue p 1
      s_one = ap (λ v. v k) is_s ∙ one

      s_beyond : (i : ℕ) → k < i → s i ≡ residue p 0
      s_beyond i u = multiple i (beyond i u)

      s_clear : (j : ℕ) → j < length basis → s (lead j) ≡ residue p 0
      s_clear j u = multiple (lead j) (remainder_at_lead positive basis lead e.top.reduced (row rows n) j u)

      t_adds_up : combination t rows ≡ s
      t_adds_up = ap (λ c. combination c rows) is_t ∙ combination-scale b (minus (unit n) (combination (λ j. row rows n (lead j)) logs)) rows
          ∙ ap (λ v. b ⊡ v) (combination-minus positive (unit n) (combination (λ j. row rows n (lead j)) logs) rows
          ∙ ap (λ v. minus v (combination (combination (λ j. row rows n (lead j)) logs) rows)) (combination-unit rows n l)
          ∙ ap (minus (row rows n)) (combination-logs (λ j. row rows n (lead j)))) ∙ sym is_s

      t_over_kept : IsOverKept rows t
      t_over_kept = subst (IsOverKept rows) (sym is_t) (IsOverKept-scale rows b (minus (unit n) (combination (λ j. row rows n (lead j)) logs))
          (IsOverKept-minus positive rows (unit n) (combination (λ j. row rows n (lead j)) logs)
          (record { elsewhere = λ i u. unit_elsewhere n i (λ same'. u (subst (IsKept rows) same' is_kept)) })
          (IsOverKept-logs (λ j. row rows n (lead j)))))

      reduced_new : IsReducedFromTop new lead'
      reduced_new = reduced_more positive basis new lead lead' e.top.reduced s k s_one s_beyond s_clear sized old last same added

      s_inside : InSpan (take (n + 1) rows) s
      s_inside = subst (InSpan (take (n + 1) rows)) (sym is_s) (InSpan-scale b (take (n + 1) rows) (remainder basis lead (row rows n))
          (InSpan-minus positive (take (n + 1) rows) (row rows n) (combination (λ j. row rows n (lead j)) basis) here
          (InSpan-combination (take (n + 1) rows) basis (λ j. row rows n (lead j)) inside_more)))
        where
          here : InSpan (take (n + 1) rows) (row rows n)
          here = subst (InSpan (take (n + 1) rows)) (row-take (n + 1) rows n (omega arith))
              (InSpan-row (take (n + 1) rows) n (omega (arith, length-take-le (n + 1) rows (omega arith))))

      old_spans : Each (InSpan new) basis
      old_spans = Each-InSpan_new positive basis new lead lead' e.top.reduced s k s_one s_beyond s_clear sized old last

      row_spans : InSpan new (row rows n)
      row_spans = InSpan-Congruent positive new (row rows n) (remainder basis lead (row rows n))
          (Congruent-more new basis (row rows n) (remainder basis lead (row rows n)) old_spans (Congruent_remainder positive basis lead (row rows n)))
          (subst (InSpan new) back (InSpan-scale (remainder basis lead (row rows n) k) new s
          (InSpan_new positive basis new lead lead' e.top.reduced s k s_one s_beyond s_clear sized old last)))
        where
          back : remainder basis lead (row rows n) k ⊡ s ≡ remainder basis lead (row rows n)
          back = ap (λ v. remainder basis lead (row rows n) k ⊡ v) is_s
              ∙ sym (scale-scale (remainder basis lead (row rows n) k) b (remainder basis lead (row rows n)))
              ∙ ap (λ a. a ⊡ remainder basis lead (row rows n)) (ResidueLaws.mul_comm (remainder basis lead (row rows n) k) b ∙ one)
              ∙ one-scale (remainder basis lead (row rows n))

      side : (j : ℕ) → j < length new → (j < length basis) ⊎ (j ≡ length basis)
      side j u = elim (ℕ_discrete j (length basis)) [ yes here ↦ inr here | no other ↦ inl (omega arith) ]

      new_adds_up : (j : ℕ) → (j < length basis) ⊎ (j ≡ length basis) → combination (row newlogs j) rows ≡ row new j
      new_adds_up j (inl u) = ap (λ c. combination c rows) (logs_old j u) ∙ combination-plus (row logs j) (opposite (row basis j k) ⊡ t) rows
          ∙ ap (λ v. v ⊞ combination (opposite (row basis j k) ⊡ t) rows) (e.adds_up j u)
          ∙ ap (λ v. row basis j ⊞ v) (combination-scale (opposite (row basis j k)) t rows ∙ ap (λ v. opposite (row basis j k) ⊡ v) t_adds_up)
          ∙ sym (old j u)
      new_adds_up j (inr here) = subst (λ m. combination (row newlogs m) rows ≡ row new m) (sym here)
          (ap (λ c. combination c rows) logs_last ∙ t_adds_up ∙ sym last)

      new_over_kept : (j : ℕ) → (j < length basis) ⊎ (j ≡ length basis) → IsOverKept rows (row newlogs j)
      new_over_kept j (inl u) = subst (IsOverKept rows) (sym (logs_old j u))
          (IsOverKept-plus rows (row logs j) (opposite (row basis j k) ⊡ t) (e.over_kept j u)
          (IsOverKept-scale rows (opposite (row basis j k)) t t_over_kept))
      new_over_kept j (inr here) = subst (λ m. IsOverKept rows (row newlogs m)) (sym here) (subst (IsOverKept rows) (sym logs_last) t_over_kept)

      pub eliminated_kept : IsEliminated rows (n + 1) new newlogs lead' (kept ++ n ∷ [])
      eliminated_kept = record {
        within = omega arith;
        top = record {
          reduced = reduced_new;
          inside = Each-InSpan_old positive basis new lead lead' e.top.reduced s k s_one s_beyond s_clear sized old last (take (n + 1) rows)
              (Each-row basis inside_more) s_inside;
          spans = Each-take (InSpan new) n rows l (λ j u. InSpan-trans new basis (row rows j) old_spans (spans_before j u)) row_spans;
        };
        logged = logs_sized ∙ sym sized;
        adds_up = λ j u. new_adds_up j (side j u);
        over_kept = λ j u. new_over_kept j (side j u);
        kept_rows = KeptList-push rows n kept e.kept_rows is_kept;
        as_many = omega (arith, length-append kept (n ∷ []), e.as_many, sized);
      }

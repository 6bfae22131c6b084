-- The walk over the symbols lists the least of each cusp, and numbers all of it.
use Rattle.std.proofs.Common.{◌≡◌, ◌≢◌, ◌+◌, ◌<◌, ◌≤◌, ◌++◌, ℕ, Bool, true, false, cond, List, [], ◌∷◌, length, get_or, replicate, refl, sym, ◌∙◌, ap, subst, inl, inr, arith}
use Rattle.std.specs.Prelude.{filter}
use Rattle.std.specs.List.{position_or_len, range_with_len}
use Rattle.std.proofs.lemmas.Bool.{cases_eq, cases_lt, false≢true, false_from_ne_true}
use Rattle.std.proofs.Math.Seq.{get_or-append_seam}
use Rattle.std.proofs.lemmas.Grind.{same_number_lists}
use Rattle.std.proofs.lemmas.List.{length-append, length-replicate, get_or-replicate, get_or_append_left, append-nil}
use Rattle.std.proofs.lemmas.List.FromFn.{get_or-map-range_with_len, length-map-range_with_len}
use Rattle.std.proofs.lemmas.List.Sums.{position_or_len_is}
use Rattle.p1_normal.specs.Points.{symbols}
use Rattle.p1_normal.proofs.Lists.{filter-range_more}
use Rattle.cusps_boundary.specs.Cusps.{in_cusp, is_least, cusps, cusp_number}
use Rattle.cusps_boundary.specs.Tables.{Marks, cusp_numbers}
use Rattle.cusps_boundary.proofs.Orbits.{IsTurned, turned_refl, turned_trans, turned_sym, turned-lt, in_cusp_from_turned, turned_from_in_cusp, least_is, least_from}

-- the cusps of the symbols below k are numbered, and their least symbols listed
pub record IsWalked (N none k : ℕ) (least numbers : List ℕ) : Type 0 where
  pub size : length numbers ≡ length (symbols N)
  pub listed : least ≡ filter (is_least N) (range_with_len 0 k)
  pub few : length least ≤ k
  pub within : k ≤ length (symbols N)
  pub before : (c : ℕ) → c < length least → get_or least c 0 < k
  pub sound : (j : ℕ) → j < length (symbols N) → get_or numbers j 0 ≢ none →
      (get_or numbers j 0 < length least) × IsTurned N (get_or least (get_or numbers j 0) 0) j
  pub whole : (c j : ℕ) → c < length least → IsTurned N (get_or least c 0) j → get_or numbers j 0 ≡ c
  pub passed : (j : ℕ) → j < k → get_or numbers j 0 ≢ none

pub walked_none : (N none : ℕ) → IsWalked N none 0 [] (replicate (length (symbols N)) none)
walked_none N none = record {
  size = length-replicate {A = ℕ} (length (symbols N)) none;
  listed = refl;
  few = omega arith;
  within = omega arith;
  before = λ c l. absurd (omega arith);
  sound = λ j l other. absurd (other (get_or-replicate (length (symbols N)) j none 0 l));
  whole = λ c j l turned. absurd (omega arith);
  passed = λ j l. absurd (omega arith);
}

-- a symbol that was reached before is not the least of its cusp
pub walked_reached : (N none k : ℕ) (least numbers : List ℕ) → k < length (symbols N) → get_or numbers k 0 ≢ none → IsWalked N none k least numbers →
    IsWalked N none (k + 1) least numbers
walked_reached N none k least numbers inside reached h =
    let c : ℕ = get_or numbers k 0 in
    let (c_below, turned) = h.sound k inside reached in
    let first_less : get_or least (get_or numbers k 0) 0 < k = h.before (get_or numbers k 0) c_below in
    let first_within : get_or least (get_or numbers k 0) 0 < length (symbols N) = omega arith in
    let not_least : is_least N k ≡ false = false_from_ne_true (is_least N k) (λ e.
    let le = least_is N k (get_or least (get_or numbers k 0) 0) inside e (turned_sym N (get_or least (get_or numbers k 0) 0) k first_within turned) in
    absurd (omega arith)) in
    record {
      size = h.size;
      listed = h.listed ∙ sym (filter-range_more (is_least N) 0 k ∙ ap (λ b. filter (is_least N) (range_with_len 0 k) ++ cond b ((0 + k) ∷ []) [])
          (ap (is_least N) (omega_zero k) ∙ not_least) ∙ append-nil (filter (is_least N) (range_with_len 0 k)));
      few = let f = h.few in omega arith;
      within = omega arith;
      before = λ d l. let f = h.before d l in omega arith;
      sound = h.sound;
      whole = h.whole;
      passed = λ j l. elim (cases_eq j k) [
        | inl same ↦ subst (λ i. get_or numbers i 0 ≢ none) (sym same) reached
        | inr other ↦ h.passed j (omega arith)
      ];
    }
  where
    omega_zero : (k : ℕ) → 0 + k ≡ k
    omega_zero k = omega arith

-- none of the cusp of a symbol that was not reached was reached
pub unmarked_cusp : (N none k : ℕ) (least numbers : List ℕ) → k < length (symbols N) → get_or numbers k 0 ≡ none → IsWalked N none k least numbers →
    (j : ℕ) → in_cusp N k j ≡ true → get_or numbers j 0 ≡ none
unmarked_cusp N none k least numbers inside free h j e = elim (cases_eq (get_or numbers j 0) none) [
  | inl same ↦ same
  | inr other ↦
      let turned : IsTurned N k j = turned_from_in_cusp N k j e in
      let (c_below, from_least) = h.sound j (turned-lt N k j inside turned) other in
      let f = h.few in
      let at_k : get_or numbers k 0 ≡ get_or numbers j 0 = h.whole (get_or numbers j 0) k c_below
      (turned_trans N (get_or least (get_or numbers j 0) 0) j k from_least (turned_sym N k j inside turned)) in
      absurd (other (sym at_k ∙ free))
]

-- and the symbol is the least of it
pub walked_free : (N none k : ℕ) (least numbers new : List ℕ) → k < length (symbols N) → length (symbols N) ≤ none → get_or numbers k 0 ≡ none →
    Marks N k (length least) numbers new → IsWalked N none k least numbers
    → IsWalked N none (k + 1) (least ++ k ∷ []) new
walked_free N none k least numbers new inside small free marks h =
    let count : length (least ++ k ∷ []) ≡ length least + 1 = length-append least (k ∷ []) in
    let few = h.few in
    record {
      size = marks.size ∙ h.size;
      listed = ap (λ xs. xs ++ k ∷ []) h.listed ∙ sym (filter-range_more (is_least N) 0 k
          ∙ ap (λ b. filter (is_least N) (range_with_len 0 k) ++ cond b ((0 + k) ∷ []) []) (ap (is_least N) (omega_zero k) ∙ is)
          ∙ ap (λ x. filter (is_least N) (range_with_len 0 k) ++ x ∷ []) (omega_zero k));
      few = omega arith;
      within = omega arith;
      before = λ c l. elim (cases_lt c (length least)) [
        | inl old ↦ let e = older c old in let f = h.before c old in omega arith
        | inr last ↦ let e = newest c (omega arith) in omega arith
      ];
      sound = λ j l other. by_cusp_sound j l other (in_cusp N k j) refl;
      whole = λ c j l turned. elim (cases_lt c (length least)) [
        | inl old ↦
            let from : IsTurned N (get_or least c 0) j = subst (λ i. IsTurned N i j) (older c old) turned in
            let at_j : get_or numbers j 0 ≡ c = h.whole c j old from in
            marks.others j (false_from_ne_true (in_cusp N k j) (λ e.
            let none_at : get_or numbers j 0 ≡ none = unmarked_cusp N none k least numbers inside free h j e in
            absurd (omega arith))) ∙ at_j
        | inr last ↦
            let is_last : c ≡ length least = omega arith in
            let from : IsTurned N k j = subst (λ i. IsTurned N i j) (newest c is_last) turned in
            marks.marked j (in_cusp_from_turned N k j inside from) ∙ sym is_last
      ];
      passed = λ j l. by_cusp_passed j l (in_cusp N k j) refl;
    }
  where
    omega_zero : (k : ℕ) → 0 + k ≡ k
    omega_zero k = omega arith

    older : (c : ℕ) → c < length least → get_or (least ++ k ∷ []) c 0 ≡ get_or least c 0
    older c l = get_or_append_left least (k ∷ []) 0 c l

    newest : (c : ℕ) → c ≡ length least → get_or (least ++ k ∷ []) c 0 ≡ k
    newest c e = ap (λ i. get_or (least ++ k ∷ []) i 0) e ∙ get_or-append_seam least k [] 0

    is : is_least N k ≡ true
    is = least_from N k (λ j turned. elim (cases_lt j k) [
      | inl before ↦ absurd (h.passed j before (unmarked_cusp N none k least numbers inside free h j (in_cusp_from_turned N k j inside turned)))
      | inr after ↦ after
    ])

    by_cusp_sound : (j : ℕ) → j < length (symbols N) → get_or new j 0 ≢ none → (b : Bool) → in_cusp N k j ≡ b →
        (get_or new j 0 < length (least ++ k ∷ [])) × IsTurned N (get_or (least ++ k ∷ []) (get_or new j 0) 0) j
    by_cusp_sound j l other true e =
        let count : length (least ++ k ∷ []) ≡ length least + 1 = length-append least (k ∷ []) in
        let at_j : get_or new j 0 ≡ length least = marks.marked j e in
        (omega arith, subst (λ i. IsTurned N i j) (sym (newest (get_or new j 0) at_j)) (turned_from_in_cusp N k j e))
    by_cusp_sound j l other false e =
        let count : length (least ++ k ∷ []) ≡ length least + 1 = length-append least (k ∷ []) in
        let same : get_or new j 0 ≡ get_or numbers j 0 = marks.others j e in
        let (below, turned) = h.sound j l (λ f. other (same ∙ f)) in
        let below_new : get_or new j 0 < length least = omega arith in
        (omega arith, subst (λ i. IsTurned N i j) (sym (older (get_or new j 0) below_new ∙ ap (λ c. get_or least c 0) same)) turned)

    by_cusp_passed : (j : ℕ) → j < k + 1 → (b : Bool) → in_cusp N k j ≡ b → get_or new j 0 ≢ none
    by_cusp_passed j l true e f = let at_j : get_or new j 0 ≡ length least = marks.marked j e in let few = h.few in omega arith
    by_cusp_passed j l false e f =
        let same : get_or new j 0 ≡ get_or numbers j 0 = marks.others j e in
        elim (cases_eq j k) [
          | inl is_k ↦ false≢true (sym e ∙ ap (in_cusp N k) is_k ∙ in_cusp_from_turned N k k inside (turned_refl N k))
          | inr other ↦ h.passed j (omega arith) (sym same ∙ f)
        ]

-- after the last symbol the least symbols are those of all cusps
pub walked_least : (N none : ℕ) (least numbers : List ℕ) → IsWalked N none (length (symbols N)) least numbers → least ≡ cusps N
unfolding cusps
walked_least N none least numbers h = h.listed

-- and the numbers are those of the symbols' cusps
pub walked_numbers : (N none : ℕ) (least numbers : List ℕ) → IsWalked N none (length (symbols N)) least numbers → numbers ≡ cusp_numbers N
unfolding cusp_number
walked_numbers N none least numbers h = same_number_lists numbers (cusp_numbers N) (h.size
    ∙ sym (length-map-range_with_len (cusp_number N) 0 (length (symbols N)))) (λ j l.
    let inside : j < length (symbols N) = let e = h.size in omega arith in
    at j inside ∙ sym (get_or-map-range_with_len (cusp_number N) 0 (length (symbols N)) j j 0 inside (omega arith)))
  where
    at : (j : ℕ) → j < length (symbols N) → get_or numbers j 0 ≡ cusp_number N j
    at j inside =
        let c : ℕ = get_or numbers j 0 in
        let (c_below, turned) = h.sound j inside (h.passed j inside) in
        let all : least ≡ cusps N = walked_least N none least numbers h in
        let back : IsTurned N j (get_or least (get_or numbers j 0) 0) =
        turned_sym N (get_or least (get_or numbers j 0) 0) j (h.before (get_or numbers j 0) c_below) turned in
        sym (ap (λ xs. position_or_len (in_cusp N j) xs) (sym all) ∙ position_or_len_is (in_cusp N j) least (get_or numbers j 0) 0 (omega arith)
        (λ i l. false_from_ne_true (in_cusp N j (get_or least i 0)) (λ e.
        let i_below : i < length least = omega arith in
        let from : IsTurned N (get_or least i 0) j = turned_sym N j (get_or least i 0) inside (turned_from_in_cusp N j (get_or least i 0) e) in
        let f : get_or numbers j 0 ≡ i = h.whole i j i_below from in
        absurd (omega arith)))
        (λ l. in_cusp_from_turned N j (get_or least (get_or numbers j 0) 0) inside back))

-- equal lists
pub walked_same : {N none k : ℕ} {least numbers least' numbers' : List ℕ} → least' ≡ least → numbers' ≡ numbers → IsWalked N none k least numbers →
    IsWalked N none k least' numbers'
walked_same {N} {none} {k} {least} {numbers} {least'} {numbers'} e f h =
    subst (λ xs. IsWalked N none k xs numbers') (sym e) (subst (IsWalked N none k least) (sym f) h)

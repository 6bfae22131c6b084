-- A cusp is marked symbol by symbol.
use Rattle.std.proofs.Common.{◌≡◌, ◌≢◌, ◌<◌, ◌⊎◌, ℕ, zero, suc, true, List, length, get_or, set, nat_eq, refl, sym, ◌∙◌, ap, subst, inl, inr, arith, eq-eqb, get_or-set_other, get_or-set_same, length-set}
use Rattle.std.specs.Prelude.{cond, sum_by}
use Rattle.std.proofs.lemmas.Bool.{cases_eq, false≢true, ne_eqb}
use Rattle.std.proofs.lemmas.List.Sums.{sum_by-set}
use Rattle.p1_normal.specs.Points.{symbols}
use Rattle.p1_normal.specs.Actions.{image_number, matrix_u}
use Rattle.cusps_boundary.specs.Cusps.{times_u, in_cusp}
use Rattle.cusps_boundary.specs.Tables.{Marks}
use Rattle.cusps_boundary.proofs.Orbits.{IsTurned, turned_refl, turned_trans, turned_once, in_cusp_from_turned, turned_from_in_cusp}

-- c stands at some symbols of the cusp of symbol k, which U leads from each to the next, and from the last to j
pub record IsMarking (N k c : ℕ) (old new : List ℕ) (j : ℕ) : Type 0 where
  pub size : length new ≡ length old
  pub here : IsTurned N k j
  pub each : (i : ℕ) → (get_or new i 0 ≡ get_or old i 0) ⊎ ((get_or new i 0 ≡ c) × IsTurned N k i)
  pub start : (get_or new k 0 ≡ c) ⊎ (j ≡ k)
  pub next : (i : ℕ) → IsTurned N k i → get_or new i 0 ≡ c → (get_or new (image_number N i matrix_u) 0 ≡ c) ⊎ (image_number N i matrix_u ≡ j)

-- none of them yet
pub marking_none : (N k c none : ℕ) (old : List ℕ) → k < length (symbols N) → c ≢ none → ((j : ℕ) → in_cusp N k j ≡ true → get_or old j 0 ≡ none) →
    IsMarking N k c old old k
marking_none N k c none old within other unmarked = record {
  size = refl;
  here = turned_refl N k;
  each = λ i. inl refl;
  start = inr refl;
  next = λ i h e. absurd (other (sym e ∙ unmarked i (in_cusp_from_turned N k i within h)));
}

-- one more
pub marking_more : (N k c : ℕ) (old new : List ℕ) (j : ℕ) → j < length new → IsMarking N k c old new j →
    IsMarking N k c old (set new j c) (image_number N j matrix_u)
marking_more N k c old new j inside h = record {
  size = length-set new j c ∙ h.size;
  here = turned_trans N k j (image_number N j matrix_u) h.here (turned_once N j);
  each = λ i. elim (cases_eq i j) [
    | inl same ↦ inr (written i same, subst (IsTurned N k) (sym same) h.here)
    | inr other ↦ elim (h.each i) [
      | inl e ↦ inl (kept i other ∙ e)
      | inr e ↦ inr (kept i other ∙ e.0, e.1)
    ]
  ];
  start = elim (cases_eq k j) [
    | inl same ↦ inl (written k same)
    | inr other ↦ elim h.start [
      | inl e ↦ inl (kept k other ∙ e)
      | inr e ↦ absurd (other (sym e))
    ]
  ];
  next = λ i turned e. elim (cases_eq i j) [
    | inl same ↦ inr (ap (λ x. image_number N x matrix_u) same)
    | inr other ↦ elim (h.next i turned (sym (kept i other) ∙ e)) [
      | inl marked ↦ inl (still (image_number N i matrix_u) marked)
      | inr last ↦ inl (written (image_number N i matrix_u) last)
    ]
  ];
}
  where
    written : (i : ℕ) → i ≡ j → get_or (set new j c) i 0 ≡ c
    written i same = ap (λ x. get_or (set new j c) x 0) same ∙ get_or-set_same new j c 0 inside

    kept : (i : ℕ) → i ≢ j → get_or (set new j c) i 0 ≡ get_or new i 0
    kept i other = get_or-set_other new j i c 0 other

    still : (i : ℕ) → get_or new i 0 ≡ c → get_or (set new j c) i 0 ≡ c
    still i e = elim (cases_eq i j) [
      | inl same ↦ written i same
      | inr other ↦ kept i other ∙ e
    ]

-- a property that U keeps holds of all powers
along : (N n i : ℕ) (P : ℕ → Type 0) → ((x : ℕ) → P x → P (image_number N x matrix_u)) → P i → P (times_u N n i)
along N zero i P step h = h
along N (suc n) i P step h = along N n (image_number N i matrix_u) P step (step i h)

-- all of them
pub marking_all : (N k c none : ℕ) (old new : List ℕ) (j : ℕ) → k < length (symbols N) → ((j : ℕ) → in_cusp N k j ≡ true → get_or old j 0 ≡ none) →
    get_or new j 0 ≢ none → IsMarking N k c old new j → Marks N k c old new
marking_all N k c none old new j within unmarked full h = record {
  size = h.size;
  marked = λ i e. let t = turned_from_in_cusp N k i e in subst (λ x. get_or new x 0 ≡ c) t.reached (reached t.times).1;
  others = λ i e. elim (h.each i) [
    | inl same ↦ same
    | inr new ↦ absurd (false≢true (sym e ∙ in_cusp_from_turned N k i within new.1))
  ];
}
  where
    last : get_or new j 0 ≡ c
    last = elim (h.each j) [
      | inl same ↦ absurd (full (same ∙ unmarked j (in_cusp_from_turned N k j within h.here)))
      | inr marked ↦ marked.0
    ]

    first : get_or new k 0 ≡ c
    first = elim h.start [
      | inl e ↦ e
      | inr e ↦ ap (λ x. get_or new x 0) (sym e) ∙ last
    ]

    step : (i : ℕ) → IsTurned N k i × (get_or new i 0 ≡ c) → IsTurned N k (image_number N i matrix_u) × (get_or new (image_number N i matrix_u) 0 ≡ c)
    step i (turned, e) = (
      turned_trans N k i (image_number N i matrix_u) turned (turned_once N i),
      elim (h.next i turned e) [
        | inl marked ↦ marked
        | inr here ↦ ap (λ x. get_or new x 0) here ∙ last
      ],
    )

    reached : (n : ℕ) → IsTurned N k (times_u N n k) × (get_or new (times_u N n k) 0 ≡ c)
    reached n = along N n k (λ i. IsTurned N k i × (get_or new i 0 ≡ c)) step (turned_refl N k, first)

-- 1 where two numbers are equal, and 0 elsewhere
abbrev one_where : ℕ → ℕ → ℕ
one_where x y = cond (nat_eq x y) 1 0

-- how many numbers of the list are x
abbrev pub count_of : ℕ → List ℕ → ℕ
count_of x xs = sum_by (one_where x) xs

-- one is replaced by another
pub fewer : (x c j : ℕ) (xs : List ℕ) → j < length xs → get_or xs j 0 ≡ x → c ≢ x → count_of x (set xs j c) < count_of x xs
fewer x c j xs inside e other =
    let sums = sum_by-set (one_where x) xs j c 0 inside in
    let one : one_where x (get_or xs j 0) ≡ 1 = ap (λ b. cond b 1 0) (eq-eqb x (get_or xs j 0) (sym e)) in
    let none : one_where x c ≡ 0 = ap (λ b. cond b 1 0) (ne_eqb x c (λ s. other (sym s))) in
    omega (arith, sums, one, none)

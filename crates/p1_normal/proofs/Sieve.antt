-- The sieve that numbers the symbols: the pairs are taken in order, and each that is not yet marked is a symbol.
use Rattle.std.proofs.Common.{◌≡◌, ◌≢◌, ◌+◌, ◌*◌, ◌/◌, ◌<◌, ◌≤◌, ◌++◌, ℕ, zero, suc, Bool, true, false, cond, List, [], ◌∷◌, Some, length, refl, sym, ◌∙◌, ap, subst, inl, inr, arith, nat_eq, eq-eqb, eqb-true}
use Rattle.std.specs.Prelude.{map, filter, slice_get, slice_index}
use Rattle.std.specs.List.{range_with_len}
use Rattle.std.proofs.lemmas.Bool.{cases_eq, and_parts, and_from, false_from_ne_true, cases_lt}
use Rattle.std.proofs.lemmas.Option.{none-some}
use Rattle.std.proofs.lemmas.Nat.{mul-add-lt, div-mul-add}
use Rattle.std.proofs.lemmas.List.FromFn.{filter_of_map_range_with_len_more}
use Rattle.std.proofs.lemmas.List.{length-append}
use Rattle.p1_normal.specs.declared.point.Point.{Point}
use Rattle.p1_normal.specs.Points.{point, SamePoint, common_divisor, normal_form, is_same, is_symbol, symbols, IsBelow}
use Rattle.p1_normal.specs.Tables.{place, IsHead, HasRows, IsNumbering, Marks}
use Rattle.p1_normal.specs.Sieving.{at, ListedAt, IsListed, Sieved}
use Rattle.p1_normal.proofs.SamePoints.{SamePoint_refl, SamePoint_sym, SamePoint_trans, common_divisor-same}
use Rattle.p1_normal.proofs.Places.{place-at, at-place, IsBelow-at, place-lt, same_point, pairs_are}
use Rattle.p1_normal.proofs.NormalForms.{SamePoint-normal_form, IsBelow-normal_form, normal_form-le, normal_form-same}
use Rattle.p1_normal.proofs.Heads.{head_of_form}
use Rattle.p1_normal.proofs.Lists.{get-push_old, get-push_new, get-push_cases}

-- what is marked is marked under all its names
marked_same : {N c : ℕ} {points : List Point} {numbers : List ℕ} → Sieved N c points numbers → (p q : Point) → IsBelow N p → IsBelow N q
    → IsHead N q.u → SamePoint N p q →
    slice_index numbers (place N p) ≢ 0 → slice_index numbers (place N q) ≢ 0
marked_same {N} {c} {points} {numbers} s p q below_p below_q head same = from_entry (slice_index numbers (place N p)) refl
  where
    from_entry : (n : ℕ) → slice_index numbers (place N p) ≡ n → slice_index numbers (place N p) ≢ 0 → slice_index numbers (place N q) ≢ 0
    from_entry zero e some = absurd (some e)
    from_entry (suc k) e some = let at_k = s.entries p k below_p e in
        s.closed q k below_q head (record { symbol = at_k.symbol; stands = at_k.stands; names = SamePoint_trans at_k.names same })

pub symbol_parts : (N : ℕ) (p : Point) → is_symbol N p ≡ true → (common_divisor N p ≡ 1) × (normal_form N p ≡ p)
unfolding is_symbol
symbol_parts N p e =
    let (one, same) = and_parts (nat_eq (common_divisor N p) 1) (is_same (normal_form N p) p) e in
    let (u, v) = and_parts (nat_eq (normal_form N p).u p.u) (nat_eq (normal_form N p).v p.v) same in
    (eqb-true (common_divisor N p) 1 one, same_point (normal_form N p) p (eqb-true (normal_form N p).u p.u u) (eqb-true (normal_form N p).v p.v v))

pub symbol_from : (N : ℕ) (p : Point) → common_divisor N p ≡ 1 → normal_form N p ≡ p → is_symbol N p ≡ true
unfolding is_symbol
symbol_from N p one same = and_from (nat_eq (common_divisor N p) 1) (is_same (normal_form N p) p) (eq-eqb (common_divisor N p) 1 one)
    (and_from (nat_eq (normal_form N p).u p.u) (nat_eq (normal_form N p).v p.v) (eq-eqb (normal_form N p).u p.u (ap (λ q. q.u) same))
    (eq-eqb (normal_form N p).v p.v (ap (λ q. q.v) same)))

pub sieve_start : (N : ℕ) (numbers : List ℕ) → HasRows N numbers → ((i : ℕ) → slice_index numbers i ≡ 0) → Sieved N 0 [] numbers
sieve_start N numbers rows zeros = record {
  listed = refl;
  few = omega arith;
  rows = rows;
  members = λ k q h. absurd (none-some q h);
  entries = λ p k below h. absurd (omega (arith, h, zeros (place N p)));
  closed = λ p k below head h. absurd (none-some h.symbol h.stands);
  covered = λ p below head h one. absurd (omega arith);
}

IsListed-more : {N c : ℕ} {q : Point} → IsListed N c q → IsListed N (c + 1) q
IsListed-more h = let l = h.passed in record { below = h.below; passed = omega arith; symbol = h.symbol }

listed_more : (N c : ℕ) (points : List Point) (b : Bool) → points ≡ filter (is_symbol N) (map (at N) (range_with_len 0 c))
    → is_symbol N (at N c) ≡ b →
    points ++ cond b (at N c ∷ []) [] ≡ filter (is_symbol N) (map (at N) (range_with_len 0 (c + 1)))
listed_more N c points b e h =
    ap (λ ps. ps ++ cond b (at N c ∷ []) []) e ∙ ap (λ t. filter (is_symbol N) (map (at N) (range_with_len 0 c)) ++ cond t (at N c ∷ []) []) (sym h)
    ∙ sym (filter_of_map_range_with_len_more (is_symbol N) (at N) 0 c c (omega arith))

-- what is marked already is not the least of its names
marked_no_symbol : {N c : ℕ} {points : List Point} {numbers : List ℕ} → 0 < N → c < N * N → Sieved N c points numbers → slice_index numbers c ≢ 0
    → is_symbol N (at N c) ≡ false
marked_no_symbol {N} {c} {points} {numbers} some within s marked = false_from_ne_true (is_symbol N (at N c))
    (λ e. from_entry e (slice_index numbers (place N (at N c))) refl)
  where
    from_entry : is_symbol N (at N c) ≡ true → (n : ℕ) → slice_index numbers (place N (at N c)) ≡ n → ⊥
    from_entry e zero h = marked (ap (λ x. slice_index numbers x) (sym (place-at N c)) ∙ h)
    from_entry e (suc k) h =
        let at_k = s.entries (at N c) k (IsBelow-at N c some within) h in
        let member = s.members k at_k.symbol at_k.stands in
        let le = normal_form-le N (at N c) at_k.symbol some (SamePoint_sym at_k.names) member.below in
        let passed = member.passed in
        let own : place N (normal_form N (at N c)) ≡ c = ap (place N) (symbol_parts N (at N c) e).1 ∙ place-at N c in
        omega arith

skipped : {N c : ℕ} {points : List Point} {numbers : List ℕ} → 0 < N → c < N * N → Sieved N c points numbers → is_symbol N (at N c) ≡ false →
    (IsHead N (at N c).u → common_divisor N (at N c) ≡ 1 → slice_index numbers c ≢ 0) → Sieved N (c + 1) points numbers
skipped {N} {c} {points} {numbers} some within s no_symbol marked = record {
  listed = sym (append-nil points) ∙ listed_more N c points false s.listed no_symbol;
  few = omega (arith, s.few);
  rows = s.rows;
  members = λ k q h. IsListed-more (s.members k q h);
  entries = s.entries;
  closed = s.closed;
  covered = λ p below head h one. elim (cases_eq (place N p) c) [
    | inl same ↦ let is : at N c ≡ p = ap (at N) (sym same) ∙ at-place N p below.second in
        λ z. marked (subst (λ q. IsHead N q.u) (sym is) head) (ap (common_divisor N) is ∙ one) (ap (λ x. slice_index numbers x) (sym same) ∙ z)
    | inr other ↦ s.covered p below head (omega arith) one
  ];
}
  where
    append-nil : (ps : List Point) → ps ++ [] ≡ ps
    append-nil [] = refl
    append-nil (p ∷ ps) = ap (λ qs. p ∷ qs) (append-nil ps)

-- a pair that is marked is passed over
pub sieve_marked : {N c : ℕ} {points : List Point} {numbers : List ℕ} → 0 < N → c < N * N → Sieved N c points numbers → slice_index numbers c ≢ 0
    → Sieved N (c + 1) points numbers
sieve_marked {N} {c} some within s marked = skipped some within s (marked_no_symbol some within s marked) (λ head one. marked)

-- so is a pair that names no point
pub sieve_none : {N c : ℕ} {points : List Point} {numbers : List ℕ} → 0 < N → c < N * N → Sieved N c points numbers → common_divisor N (at N c) ≢ 1
    → Sieved N (c + 1) points numbers
sieve_none {N} {c} some within s more = skipped some within s (false_from_ne_true (is_symbol N (at N c)) (λ e. more (symbol_parts N (at N c) e).0))
    (λ head one. absurd (more one))

-- and a pair that does not begin with a head
pub sieve_no_head : {N c : ℕ} {points : List Point} {numbers : List ℕ} → 0 < N → c < N * N → Sieved N c points numbers → (IsHead N (at N c).u → ⊥)
    → Sieved N (c + 1) points numbers
sieve_no_head {N} {c} some within s other = skipped some within s
    (false_from_ne_true (is_symbol N (at N c)) (λ e. other (head_of_form N (at N c) some (IsBelow-at N c some within) (symbol_parts N (at N c) e).1)))
    (λ head one. absurd (other head))

-- a pair that names a point and is not marked is the least of its names
unmarked_symbol : {N c : ℕ} {points : List Point} {numbers : List ℕ} → 0 < N → c < N * N → Sieved N c points numbers → IsHead N (at N c).u
    → slice_index numbers c ≡ 0 → common_divisor N (at N c) ≡ 1 → is_symbol N (at N c) ≡ true
unmarked_symbol {N} {c} {points} {numbers} some within s head unmarked one =
    let below : IsBelow N (at N c) = IsBelow-at N c some within in
    let form : Point = normal_form N (at N c) in
    let form_below : IsBelow N form = IsBelow-normal_form N (at N c) some in
    let same : SamePoint N (at N c) form = SamePoint-normal_form N (at N c) in
    let le : place N form ≤ place N (at N c) = normal_form-le N (at N c) (at N c) some (SamePoint_refl N (at N c)) below in
    let own : place N (at N c) ≡ c = place-at N c in
    let form_head : IsHead N form.u = head_of_form N form some form_below (sym (normal_form-same N (at N c) form some same)) in
    elim (cases_lt (place N form) c) [
      | inl before ↦ absurd (marked_same s form (at N c) form_below below head (SamePoint_sym same)
          (s.covered form form_below form_head before (sym (common_divisor-same same) ∙ one)) (ap (λ x. slice_index numbers x) own ∙ unmarked))
      | inr not_before ↦ let e : place N form ≡ c = omega arith in symbol_from N (at N c) one (sym (at-place N form form_below.second) ∙ ap (at N) e)
    ]

-- a pair that names a point and is not marked is listed, and its names are marked
pub sieve_push : {N c : ℕ} {points : List Point} {numbers new : List ℕ} → 0 < N → c < N * N → Sieved N c points numbers → IsHead N (at N c).u
    → slice_index numbers c ≡ 0 → common_divisor N (at N c) ≡ 1 →
    Marks N (at N c) (suc (length points)) numbers new → Sieved N (c + 1) (points ++ at N c ∷ []) new
sieve_push {N} {c} {points} {numbers} {new} some within s head unmarked one marks =
    let symbol : is_symbol N (at N c) ≡ true = unmarked_symbol some within s head unmarked one in
    record {
      listed = listed_more N c points true s.listed symbol;
      few = omega (arith, s.few, length-append points (at N c ∷ []));
      rows = λ u l h. omega (arith, marks.size, s.rows u l h);
      members = λ k q h. elim (get-push_cases points (at N c) q k h) [
        | inl old ↦ IsListed-more (s.members k q old)
        | inr here ↦ subst (IsListed N (c + 1)) here.1 (record {
          below = IsBelow-at N c some within;
          passed = omega (arith, place-at N c);
          symbol =
              symbol;
        })
      ];
      entries = λ p k below h. elim (marks.others p below) [
        | inl same ↦ old_entry p k (s.entries p k below (sym same ∙ h))
        | inr here ↦ let e : length points ≡ k = suc_inj (sym here.0 ∙ h) in record {
          symbol = at N c;
          stands = subst (λ j. slice_get (points ++ at N c ∷ []) j ≡ Some (at N c)) e (get-push_new points (at N c));
          names =
              here.1;
        }
      ];
      closed = λ p k below head h. elim (get-push_cases points (at N c) h.symbol k h.stands) [
        | inl old ↦ stays p below (s.closed p k below head (record { symbol = h.symbol; stands = old; names = h.names }))
        | inr here ↦ let e = marks.named p below head (subst (λ q. SamePoint N q p) (sym here.1) h.names) in λ z. suc_ne (sym e ∙ z)
      ];
      covered = λ p below head h is_one. elim (cases_eq (place N p) c) [
        | inl same ↦ let is : at N c ≡ p = ap (at N) (sym same) ∙ at-place N p below.second in
            let e = marks.named p below head (subst (SamePoint N (at N c)) is (SamePoint_refl N (at N c))) in λ z. suc_ne (sym e ∙ z)
        | inr other ↦ stays p below (s.covered p below head (omega arith) is_one)
      ];
    }
  where
    suc_inj : {m n : ℕ} → suc m ≡ suc n → m ≡ n
    suc_inj e = omega arith

    suc_ne : {n : ℕ} → suc n ≡ 0 → ⊥
    suc_ne e = omega arith

    old_entry : (p : Point) (k : ℕ) → ListedAt N points k p → ListedAt N (points ++ at N c ∷ []) k p
    old_entry p k h = record { symbol = h.symbol; stands = get-push_old points (at N c) h.symbol k h.stands; names = h.names }

    stays : (p : Point) → IsBelow N p → slice_index numbers (place N p) ≢ 0 → slice_index new (place N p) ≢ 0
    stays p below more = elim (marks.others p below) [ inl same ↦ (λ z. more (sym same ∙ z)) | inr here ↦ (λ z. suc_ne (sym here.0 ∙ z)) ]

-- at the end all symbols are listed
pub sieve_end : {N : ℕ} {points : List Point} {numbers : List ℕ} → 0 < N → Sieved N (N * N) points numbers
    → (points ≡ symbols N) × IsNumbering N numbers
unfolding symbols
sieve_end {N} {points} {numbers} some s =
    let all : points ≡ symbols N = s.listed ∙ ap (filter (is_symbol N)) (sym (pairs_are N)) in (
      all,
      record {
        rows = s.rows;
        none = λ p below head z one. s.covered p below head (place-lt N p below) one z;
        some = λ p k below head h.
            let at_k = s.entries p k below h in
            let (one, own) = symbol_parts N at_k.symbol (s.members k at_k.symbol at_k.stands).symbol in (
              sym (common_divisor-same at_k.names) ∙ one,
              ap (λ ps. slice_get ps k) (sym all) ∙ at_k.stands
                  ∙ ap Some (sym own ∙ normal_form-same N at_k.symbol p some at_k.names),
            );
      },
    )

-- `sieve_push` at the values of the loop
pub sieve_pushed : {N c : ℕ} {points more : List Point} {numbers old new : List ℕ} {number : ℕ} → 0 < N → c < N * N → Sieved N c points numbers
    → IsHead N (at N c).u → slice_index numbers c ≡ 0 → common_divisor N (at N c) ≡ 1 →
    more ≡ points ++ at N c ∷ [] → old ≡ numbers → number ≡ suc (length points) → Marks N (at N c) number old new → Sieved N (c + 1) more new
sieve_pushed {N} {c} {points} {more} {numbers} {old} {new} {number} some within s head unmarked one e f g marks =
    let marked : Marks N (at N c) number numbers new = subst (λ xs. Marks N (at N c) number xs new) f marks in
    let with_number : Marks N (at N c) (suc (length points)) numbers new = subst (λ k. Marks N (at N c) k numbers new) g marked in
    subst (λ ps. Sieved N (c + 1) ps new) (sym e) (sieve_push some within s head unmarked one with_number)

pub sieve_same : {N c : ℕ} {points points' : List Point} {numbers numbers' : List ℕ} → points' ≡ points → numbers' ≡ numbers
    → Sieved N c points numbers → Sieved N c points' numbers'
sieve_same {N} {c} {points} {points'} {numbers} {numbers'} e f s = subst (λ ps. Sieved N c ps numbers') (sym e)
    (subst (λ ns. Sieved N c points ns) (sym f) s)

pub sieve_all : {N c : ℕ} {points : List Point} {numbers : List ℕ} → 0 < N → c ≡ N * N → Sieved N c points numbers
    → (points ≡ symbols N) × IsNumbering N numbers
sieve_all {N} {c} {points} {numbers} some e s = sieve_end some (subst (λ k. Sieved N k points numbers) e s)

-- a row that does not begin with a head is passed over
pub sieve_no_row : {N u : ℕ} {points : List Point} {numbers : List ℕ} → 0 < N → u < N → (IsHead N u → ⊥) → (k : ℕ) → k ≤ N
    → Sieved N (u * N) points numbers → Sieved N (u * N + k) points numbers
sieve_no_row {N} {u} {points} {numbers} some within other zero le s = let e : u * N ≡ u * N + 0 = omega arith in subst
    (λ c. Sieved N c points numbers) e s
sieve_no_row {N} {u} {points} {numbers} some within other (suc k) le s =
    let e : u * N + k + 1 ≡ u * N + suc k = omega arith in
    let inside : u * N + k < N * N = mul-add-lt u N k N within (omega arith) in
    let row : (u * N + k) / N ≡ u = div-mul-add u N k (omega arith) in
    subst (λ c. Sieved N c points numbers) e (sieve_no_head some inside (sieve_no_row some within other k (omega arith) s)
    (λ h. other (subst (IsHead N) row h)))

-- ---- the steps at the pair (u, v) of a row
row_step : {N : ℕ} {points : List Point} {numbers : List ℕ} (u v : ℕ) → Sieved N (u * N + v + 1) points numbers
    → Sieved N (u * N + (v + 1)) points numbers
row_step {N} {points} {numbers} u v s = let e : u * N + v + 1 ≡ u * N + (v + 1) = omega arith in subst (λ c. Sieved N c points numbers) e s

pub row_pushed : {N u v : ℕ} {points more : List Point} {numbers new : List ℕ} {number : ℕ} → 0 < N → u < N → v < N
    → Sieved N (u * N + v) points numbers → IsHead N u → slice_index numbers (u * N + v) ≡ 0 → common_divisor N (point u v) ≡ 1 →
    more ≡ points ++ point u v ∷ [] → number ≡ suc (length points) → Marks N (point u v) number numbers new → Sieved N (u * N + (v + 1)) more new
row_pushed {N} {u} {v} {points} {more} {numbers} {new} {number} some u_below v_below s head unmarked one e g marks =
    let here : point u v ≡ at N (u * N + v) = sym (at-place N (point u v) v_below) in
    row_step u v (sieve_pushed some (mul-add-lt u N v N u_below v_below) s (subst (λ p. IsHead N p.u) here head) unmarked
    (ap (common_divisor N) (sym here) ∙ one)
    (e ∙ ap (λ p. points ++ p ∷ []) here) refl g (subst (λ p. Marks N p number numbers new) here marks))

pub row_marked : {N u v : ℕ} {points : List Point} {numbers : List ℕ} → 0 < N → u < N → v < N → Sieved N (u * N + v) points numbers
    → slice_index numbers (u * N + v) ≢ 0 → Sieved N (u * N + (v + 1)) points numbers
row_marked {N} {u} {v} some u_below v_below s marked = row_step u v (sieve_marked some (mul-add-lt u N v N u_below v_below) s marked)

pub row_none : {N u v : ℕ} {points : List Point} {numbers : List ℕ} → 0 < N → u < N → v < N → Sieved N (u * N + v) points numbers
    → common_divisor N (point u v) ≢ 1 → Sieved N (u * N + (v + 1)) points numbers
row_none {N} {u} {v} some u_below v_below s more = row_step u v (sieve_none some (mul-add-lt u N v N u_below v_below) s
    (λ one. more (ap (common_divisor N) (sym (at-place N (point u v) v_below)) ∙ one)))

pub row_skipped : {N u : ℕ} {points : List Point} {numbers : List ℕ} → 0 < N → u < N → (IsHead N u → ⊥) → Sieved N (u * N) points numbers
    → Sieved N ((u + 1) * N) points numbers
row_skipped {N} {u} {points} {numbers} some within other s = let e : u * N + N ≡ (u + 1) * N = omega arith in subst (λ c. Sieved N c points numbers) e
    (sieve_no_row some within other N (omega arith) s)

pub row_done : {N : ℕ} {points : List Point} {numbers : List ℕ} (u : ℕ) → Sieved N (u * N + N) points numbers → Sieved N ((u + 1) * N) points numbers
row_done {N} {points} {numbers} u s = let e : u * N + N ≡ (u + 1) * N = omega arith in subst (λ c. Sieved N c points numbers) e s

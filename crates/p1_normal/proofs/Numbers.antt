-- The number of a symbol: each stands at one place of the list of symbols.
use Rattle.std.proofs.Common.{◌≡◌, ◌*◌, ◌<◌, ℕ, zero, suc, true, Some, length, get_or, sym, ◌∙◌, ap, subst, inl, inr, arith, eq-eqb, eqb-true, nat_eq}
use Rattle.std.specs.Prelude.{slice_get, map}
use Rattle.std.specs.List.{AllPairs, range_with_len}
use Rattle.std.proofs.lemmas.Bool.{and_from, and_parts, cases_lt, false_from_ne_true}
use Rattle.std.proofs.lemmas.Option.{slice_get_within, get_or_from_slice_get, slice_get-get_or}
use Rattle.std.proofs.lemmas.List.FromFn.{get_or-map-range_with_len, length-map-range_with_len}
use Rattle.std.proofs.lemmas.List.Kept.{AllPairs-filter}
use Rattle.std.proofs.lemmas.List.Sums.{position_or_len_is}
use Rattle.p1_normal.specs.declared.point.Point.{Point}
use Rattle.p1_normal.specs.Points.{point, common_divisor, normal_form, is_same, is_symbol, pairs, symbols, symbol_at, number, IsBelow, IsNumber}
use Rattle.p1_normal.specs.Tables.{place, IsFound}
use Rattle.p1_normal.specs.Sieving.{at}
use Rattle.p1_normal.proofs.Lists.{StandsIn, StandsIn-filter}
use Rattle.p1_normal.proofs.Places.{same_point, place-at, at-place, place-lt, pairs_are}
use Rattle.p1_normal.proofs.NormalForms.{IsBelow-normal_form, normal_form-same, SamePoint-normal_form}
use Rattle.p1_normal.proofs.SamePoints.{common_divisor-same}
use Rattle.p1_normal.proofs.Sieve.{symbol_from}
use Rattle.p1_normal.proofs.Marking.{length-symbols}
use Rattle.p1_normal.proofs.Symbols.{symbol_at_is}

-- all pairs below N rise
pairs_rise : (N : ℕ) → AllPairs (λ p q. place N p < place N q) (pairs N)
pairs_rise N = subst (AllPairs (λ p q. place N p < place N q)) (sym (pairs_are N)) (λ i j d before within.
    let last : j < N * N = omega (arith, length-map-range_with_len (at N) 0 (N * N)) in
    let first = get_or-map-range_with_len (at N) 0 (N * N) i i d (omega arith) (omega arith) in
    let second = get_or-map-range_with_len (at N) 0 (N * N) j j d last (omega arith) in
    omega (arith, ap (place N) first, ap (place N) second, place-at N i, place-at N j))

-- the symbols rise
pub symbols_rise : (N j k : ℕ) (p q : Point) → IsNumber N j p → IsNumber N k q → j < k → place N p < place N q
unfolding symbols
symbols_rise N j k p q e f before =
    let rising : AllPairs (λ p q. place N p < place N q) (symbols N) =
    AllPairs-filter (λ p q. place N p < place N q) (is_symbol N) (pairs N) (pairs_rise N) in
    subst (λ r. place N r < place N q) (get_or_from_slice_get (symbols N) j p p e)
    (subst (λ r. place N (get_or (symbols N) j p) < place N r) (get_or_from_slice_get (symbols N) k q p f)
    (rising j k p before (slice_get_within (symbols N) k q f)))

-- a level with a symbol is not 0
pub level_positive : (N k : ℕ) → k < length (symbols N) → 0 < N
level_positive zero k within = absurd (omega (arith, length-symbols 0))
level_positive (suc n) k within = omega arith

-- a symbol has one number
pub number_unique : (N j k : ℕ) (p : Point) → IsNumber N j p → IsNumber N k p → j ≡ k
number_unique N j k p e f = elim (cases_lt j k) [
  | inl before ↦ absurd (omega (arith, symbols_rise N j k p p e f before))
  | inr not_before ↦ elim (cases_lt k j) [
    | inl after ↦ absurd (omega (arith, symbols_rise N k j p p f e after))
    | inr not_after ↦ omega arith
  ]
]

is_same_from : (p q : Point) → p ≡ q → is_same p q ≡ true
is_same_from p q e = and_from (nat_eq p.u q.u) (nat_eq p.v q.v) (eq-eqb p.u q.u (ap (λ r. r.u) e)) (eq-eqb p.v q.v (ap (λ r. r.v) e))

same_from : (p q : Point) → is_same p q ≡ true → p ≡ q
same_from p q e = let (x, y) = and_parts (nat_eq p.u q.u) (nat_eq p.v q.v) e in same_point p q (eqb-true p.u q.u x) (eqb-true p.v q.v y)

-- `number` finds it
pub number_is : (N k : ℕ) (p : Point) → IsNumber N k p → number N p ≡ k
unfolding number
number_is N k p e = position_or_len_is (is_same p) (symbols N) k p (omega (arith, slice_get_within (symbols N) k p e))
    (λ j before. false_from_ne_true (is_same p (get_or (symbols N) j p)) (λ h.
    let within : j < length (symbols N) = omega (arith, slice_get_within (symbols N) k p e) in
    let stands : IsNumber N j p = slice_get-get_or (symbols N) j p within ∙ ap Some (sym (same_from p (get_or (symbols N) j p) h)) in
    absurd (omega (arith, number_unique N j k p stands e))))
    (λ within. is_same_from p (get_or (symbols N) k p) (sym (get_or_from_slice_get (symbols N) k p p e)))

pub IsNumber-symbol_at : (N k : ℕ) → k < length (symbols N) → IsNumber N k (symbol_at N k)
IsNumber-symbol_at N k within =
    let e = slice_get-get_or (symbols N) k (point 0 0) within in
    e ∙ ap Some (sym (symbol_at_is N k (get_or (symbols N) k (point 0 0)) e))

pub number-symbol_at : (N k : ℕ) → k < length (symbols N) → number N (symbol_at N k) ≡ k
number-symbol_at N k within = number_is N k (symbol_at N k) (IsNumber-symbol_at N k within)

-- the normal form of a point is a symbol
pub symbol_stands : (N : ℕ) (p : Point) → 0 < N → common_divisor N p ≡ 1 → StandsIn (symbols N) (normal_form N p)
unfolding symbols
symbol_stands N p some one =
    let q : Point = normal_form N p in
    let below : IsBelow N q = IsBelow-normal_form N p some in
    let own : normal_form N q ≡ q = sym (normal_form-same N p q some (SamePoint-normal_form N p)) in
    let coprime : common_divisor N q ≡ 1 = sym (common_divisor-same (SamePoint-normal_form N p)) ∙ one in
    StandsIn-filter (is_symbol N) (pairs N) q (place N q) (subst (λ ps. slice_get ps (place N q) ≡ Some q) (sym (pairs_are N)) (stands q below))
    (symbol_from N q coprime own)
  where
    stands : (q : Point) → IsBelow N q → slice_get (map (at N) (range_with_len 0 (N * N))) (place N q) ≡ Some q
    stands q below =
        let within : place N q < length (map (at N) (range_with_len 0 (N * N))) =
        omega (arith, place-lt N q below, length-map-range_with_len (at N) 0 (N * N)) in
        slice_get-get_or (map (at N) (range_with_len 0 (N * N))) (place N q) q within
        ∙ ap Some (get_or-map-range_with_len (at N) 0 (N * N) (place N q) (place N q) q (place-lt N q below) (omega arith)
        ∙ at-place N q below.second)

pub IsNumber-number : (N : ℕ) (p : Point) → 0 < N → common_divisor N p ≡ 1 → IsNumber N (number N (normal_form N p)) (normal_form N p)
IsNumber-number N p some one =
    let (k, e) = symbol_stands N p some one in
    subst (λ j. IsNumber N j (normal_form N p)) (sym (number_is N k (normal_form N p) e)) e

pub symbol_at-number : (N : ℕ) (p : Point) → 0 < N → common_divisor N p ≡ 1 → symbol_at N (number N (normal_form N p)) ≡ normal_form N p
symbol_at-number N p some one = symbol_at_is N (number N (normal_form N p)) (normal_form N p) (IsNumber-number N p some one)

pub number-lt : (N : ℕ) (p : Point) → 0 < N → common_divisor N p ≡ 1 → number N (normal_form N p) < length (symbols N)
number-lt N p some one = slice_get_within (symbols N) (number N (normal_form N p)) (normal_form N p) (IsNumber-number N p some one)

-- what a table has at a symbol is its number
pub IsFound-from : (N : ℕ) (p : Point) (k : ℕ) → (common_divisor N p ≡ 1) × IsNumber N k (normal_form N p) → IsFound N p k
IsFound-from N p k (one, stands) = record {
  point = one;
  number = sym (number_is N k (normal_form N p) stands);
  below = slice_get_within (symbols N) k (normal_form N p) stands;
}

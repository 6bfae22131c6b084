-- The numbers of cusps, and the tables of them.
use Rattle.std.proofs.Common.{◌≡◌, ◌≢◌, ◌+◌, ◌<◌, ◌≤◌, ◌++◌, ◌↔◌, ℕ, List, [], ◌∷◌, length, get_or, map, true, sym, ◌∙◌, ap, subst, inl, inr, arith}
use Rattle.std.specs.List.{Contains, range_with_len}
use Rattle.std.specs.List.Sorted.{IsStrictlyIncreasing}
use Rattle.std.proofs.lemmas.Bool.{cases_lt, false≢true}
use Rattle.std.proofs.lemmas.List.Elements.{All-filter, All-from_get_or, All-get_or, filter_passes}
use Rattle.std.proofs.lemmas.List.FromFn.{get_or-map-range_with_len, get_or-range_with_len, length-map-range_with_len, length-range_with_len, map-range_with_len_more}
use Rattle.std.proofs.lemmas.List.Kept.{AllPairs-from_increasing, IsStrictlyIncreasing-filter}
use Rattle.std.proofs.lemmas.List.Sums.{count_by-le-length, fails_before_first, length-filter, passes_at_first}
use Rattle.linear_algebra.proofs.BoundPlaces.{range_rising}
use Rattle.p1_normal.specs.declared.level.TheConstants.{MAX_LEVEL}
use Rattle.p1_normal.specs.Points.{symbols}
use Rattle.p1_normal.specs.Actions.{image_number, matrix_s}
use Rattle.p1_normal.proofs.Lists.{filter-range_finds, read_at}
use Rattle.p1_normal.proofs.Marking.{length-symbols, small_square}
use Rattle.p1_normal.proofs.Moves.{image_number-lt, invertible_s}
use Rattle.cusps_boundary.specs.Cusps.{cusp, in_cusp, is_least, cusps, cusp_number}
use Rattle.cusps_boundary.specs.Tables.{AreCusps, cusp_numbers, opposite_numbers}
use Rattle.cusps_boundary.proofs.Orbits.{IsTurned, turned-lt, turned_sym, turned_trans, in_cusp_from_turned, turned_from_in_cusp, contains_from_turned, turned_from_contains, cusp_number_same, has_least, least_is, least_unique}

-- each symbol lies in a cusp of the list
pub cusp_number-lt : (N k : ℕ) → k < length (symbols N) → cusp_number N k < length (cusps N)
unfolding cusps cusp_number
cusp_number-lt N k within =
    let h = has_least N k in
    let inside : h.least < length (symbols N) = turned-lt N k h.least within h.turned in
    let (j, l, e) = filter-range_finds (is_least N) 0 (length (symbols N)) h.least (omega arith) (omega arith) h.is in
    elim (cases_lt (cusp_number N k) (length (cusps N))) [
      | inl less ↦ less
      | inr beyond ↦ absurd (false≢true (sym (fails_before_first (in_cusp N k) (cusps N) j 0 (omega arith)) ∙ ap (in_cusp N k) e
          ∙ in_cusp_from_turned N k h.least within h.turned))
    ]

-- it has the least symbol that stands there
pub cusp_number_turned : (N k : ℕ) → k < length (symbols N) → IsTurned N k (get_or (cusps N) (cusp_number N k) 0)
unfolding cusp_number
cusp_number_turned N k within = turned_from_in_cusp N k (get_or (cusps N) (cusp_number N k) 0)
    (passes_at_first (in_cusp N k) (cusps N) 0 (cusp_number-lt N k within))

-- ---- the list of the least symbols
-- there are no more cusps than symbols
pub length-cusps : (N : ℕ) → length (cusps N) ≤ length (symbols N)
unfolding cusps
length-cusps N = omega (
  arith,
  length-filter (is_least N) (range_with_len 0 (length (symbols N))),
  count_by-le-length (is_least N) (range_with_len 0 (length (symbols N))),
  length-range_with_len 0 (length (symbols N)),
)

-- each is a symbol
pub cusps_below : (N c : ℕ) → c < length (cusps N) → get_or (cusps N) c 0 < length (symbols N)
unfolding cusps
cusps_below N c within = All-get_or (λ k. k < length (symbols N)) (cusps N) c 0 within
    (All-filter (is_least N) (λ k. k < length (symbols N)) (range_with_len 0 (length (symbols N)))
    (All-from_get_or (λ k. k < length (symbols N)) (range_with_len 0 (length (symbols N))) 0 (λ i l.
    let inside : i < length (symbols N) = omega (arith, length-range_with_len 0 (length (symbols N))) in
    subst (λ k. k < length (symbols N)) (sym (get_or-range_with_len 0 (length (symbols N)) i 0 inside)) (omega arith))))

-- and the least of its cusp
pub cusps_least : (N c : ℕ) → c < length (cusps N) → is_least N (get_or (cusps N) c 0) ≡ true
unfolding cusps
cusps_least N c within = All-get_or (λ k. is_least N k ≡ true) (cusps N) c 0 within
    (filter_passes (is_least N) (range_with_len 0 (length (symbols N))))

-- they rise
pub cusps_rise : (N : ℕ) → IsStrictlyIncreasing (cusps N)
unfolding cusps
cusps_rise N = IsStrictlyIncreasing-filter (is_least N) (range_with_len 0 (length (symbols N))) (range_rising (length (symbols N)))

-- ---- one cusp, one number
-- the least symbol of a cusp has the cusp's own number
pub cusp_number-least : (N c : ℕ) → c < length (cusps N) → cusp_number N (get_or (cusps N) c 0) ≡ c
cusp_number-least N c within =
    let k : ℕ = get_or (cusps N) c 0 in
    let d : ℕ = cusp_number N (get_or (cusps N) c 0) in
    let k_below : get_or (cusps N) c 0 < length (symbols N) = cusps_below N c within in
    let d_below : cusp_number N (get_or (cusps N) c 0) < length (cusps N) = cusp_number-lt N k k_below in
    let same : get_or (cusps N) c 0 ≡ get_or (cusps N) (cusp_number N (get_or (cusps N) c 0)) 0 =
    least_unique N k (get_or (cusps N) d 0) k_below (cusps_below N d d_below) (cusps_least N c within) (cusps_least N d d_below)
    (cusp_number_turned N k k_below) in
    let rising = AllPairs-from_increasing (cusps N) (cusps_rise N) in
    elim (cases_lt d c) [
      | inl before ↦ let l = rising d c 0 before within in absurd (omega arith)
      | inr not_before ↦ elim (cases_lt c d) [
        | inl after ↦ let l = rising c d 0 after d_below in absurd (omega arith)
        | inr not_after ↦ omega arith
      ]
    ]

-- a symbol lies in the cusp that has its number
pub cusp_holds : (N k : ℕ) → k < length (symbols N) → Contains (cusp N (get_or (cusps N) (cusp_number N k) 0)) k
cusp_holds N k within =
    let l : ℕ = get_or (cusps N) (cusp_number N k) 0 in
    contains_from_turned N l k (cusps_below N (cusp_number N k) (cusp_number-lt N k within)) (turned_sym N k l within (cusp_number_turned N k within))

-- symbols with one number lie in one cusp
pub one_cusp : (N j k : ℕ) → j < length (symbols N) → k < length (symbols N) → (cusp_number N j ≡ cusp_number N k) ↔ Contains (cusp N j) k
one_cusp N j k within_j within_k = (
  λ e. let l : ℕ = get_or (cusps N) (cusp_number N j) 0 in
      contains_from_turned N j k within_j (turned_trans N j l k (cusp_number_turned N j within_j)
      (turned_sym N k l within_k (subst (λ c. IsTurned N k (get_or (cusps N) c 0)) (sym e) (cusp_number_turned N k within_k)))),
  λ h. cusp_number_same N j k within_j (turned_from_contains N j k h),
)

-- the symbol that stands for a cusp is the least of it
pub least_of_cusp : (N c k : ℕ) → c < length (cusps N) → Contains (cusp N (get_or (cusps N) c 0)) k → get_or (cusps N) c 0 ≤ k
least_of_cusp N c k within h = least_is N (get_or (cusps N) c 0) k (cusps_below N c within) (cusps_least N c within)
    (turned_from_contains N (get_or (cusps N) c 0) k h)

-- ---- what the code reads
-- an entry that was read
pub entry_is : (xs : List ℕ) (i x v : ℕ) → i < length xs → x ≡ get_or xs i x → x ≡ v → get_or xs i 0 ≡ v
entry_is xs i x v inside read e = read_at xs i x inside read ∙ e

pub entry_is_not : (xs : List ℕ) (i x v : ℕ) → i < length xs → x ≡ get_or xs i x → x ≢ v → get_or xs i 0 ≢ v
entry_is_not xs i x v inside read other e = other (sym (read_at xs i x inside read) ∙ e)

read_table : (f : ℕ → ℕ) (m k x : ℕ) (xs : List ℕ) → xs ≡ map f (range_with_len 0 m) → k < m → x ≡ get_or xs k x → x ≡ f k
read_table f m k x xs e inside read = read ∙ ap (λ ys. get_or ys k x) e ∙ get_or-map-range_with_len f 0 m k k x inside (omega arith)

pub length-cusp_numbers : (N : ℕ) → length (cusp_numbers N) ≡ length (symbols N)
length-cusp_numbers N = length-map-range_with_len (cusp_number N) 0 (length (symbols N))

pub length-opposite_numbers : (N : ℕ) → length (opposite_numbers N) ≡ length (symbols N)
length-opposite_numbers N = length-map-range_with_len (λ k. cusp_number N (image_number N k matrix_s)) 0 (length (symbols N))

pub number_value : (N M k x : ℕ) (numbers : List ℕ) → N ≡ M → numbers ≡ cusp_numbers N → k < length (symbols M) → x ≡ get_or numbers k x →
    x ≡ cusp_number M k
number_value N M k x numbers level e inside read = read_table (cusp_number M) (length (symbols M)) k x numbers (e ∙ ap cusp_numbers level) inside read

pub opposite_value : (N M k x : ℕ) (opposites : List ℕ) → N ≡ M → opposites ≡ opposite_numbers N → k < length (symbols M) → x ≡ get_or opposites k x →
    x ≡ cusp_number M (image_number M k matrix_s)
opposite_value N M k x opposites level e inside read = read_table (λ k. cusp_number M (image_number M k matrix_s)) (length (symbols M)) k x opposites
    (e ∙ ap opposite_numbers level) inside read

pub opposite-lt : (N k : ℕ) → k < length (symbols N) → cusp_number N (image_number N k matrix_s) < length (cusps N)
opposite-lt N k within = cusp_number-lt N (image_number N k matrix_s) (image_number-lt N k matrix_s within (invertible_s N))

-- what the code gives for the least symbol of a cusp
pub least_below : (N M c x : ℕ) (least : List ℕ) → N ≡ M → least ≡ cusps N → c < length (cusps M) → x ≡ get_or least c x → x < length (symbols M)
least_below N M c x least level e within read =
    let all : least ≡ cusps M = e ∙ ap cusps level in
    let is : get_or least c 0 ≡ x = read_at least c x (omega (arith, ap length all)) read in
    subst (λ y. y < length (symbols M)) (ap (λ ys. get_or ys c 0) (sym all) ∙ is) (cusps_below M c within)

-- ---- the numbers of the cusps of the symbols' images
-- those of the symbols below k
abbrev pub first_opposites : ℕ → ℕ → List ℕ
first_opposites N k = map (λ j. cusp_number N (image_number N j matrix_s)) (range_with_len 0 k)

pub opposites_more : (N k x s : ℕ) (numbers list : List ℕ) → numbers ≡ cusp_numbers N → k < length (symbols N) → s ≡ image_number N k matrix_s →
    x ≡ get_or numbers s 0 → list ≡ first_opposites N k → list ++ x ∷ [] ≡ first_opposites N (k + 1)
opposites_more N k x s numbers list e inside is_s read so_far =
    let is : x ≡ cusp_number N (image_number N k matrix_s) = read ∙ ap (λ i. get_or numbers i 0) is_s
    ∙ ap (λ ys. get_or ys (image_number N k matrix_s) 0) e
    ∙ get_or-map-range_with_len (cusp_number N) 0 (length (symbols N)) (image_number N k matrix_s) (image_number N k matrix_s) 0
    (image_number-lt N k matrix_s inside (invertible_s N)) (omega arith) in
    ap (λ xs. xs ++ x ∷ []) so_far ∙ ap (λ y. first_opposites N k ++ y ∷ []) is
    ∙ sym (map-range_with_len_more (λ j. cusp_number N (image_number N j matrix_s)) 0 k k (omega arith))

-- ---- the tables that are kept
pub are_cusps : (N n : ℕ) (least numbers opposites : List ℕ) → n ≡ N → n ≤ MAX_LEVEL → least ≡ cusps N → numbers ≡ cusp_numbers N →
    opposites ≡ opposite_numbers N → AreCusps n least numbers opposites
are_cusps N n least numbers opposites level limited listed numbered opposed = record {
  listed = listed ∙ ap cusps (sym level);
  numbered = numbered ∙ ap cusp_numbers (sym level);
  opposed = opposed ∙ ap opposite_numbers (sym level);
  limited = omega (arith, length-symbols n, small_square n limited);
}

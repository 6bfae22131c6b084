-- Reading the table of numbers, and marking.
use Rattle.std.proofs.Common.{◌≡◌, ◌≢◌, ◌+◌, ◌*◌, ◌%◌, ◌<◌, ◌≤◌, ◌⊎◌, ℕ, List, length, not, get_or, set, refl, sym, ◌∙◌, ap, subst, inl, inr, arith, get_or-set_other, get_or-set_same, length-set}
use Rattle.std.specs.Prelude.{slice_index}
use Rattle.std.proofs.Math.Nat.{mul-le-mul}
use Rattle.std.proofs.lemmas.List.Filters.{length-filter_both}
use Rattle.std.proofs.lemmas.List.FromFn.{length-map-range_with_len}
use Rattle.std.proofs.lemmas.Bool.{cases_eq}
use Rattle.p1_normal.specs.declared.level.TheConstants.{MAX_LEVEL}
use Rattle.p1_normal.specs.declared.point.Point.{Point}
use Rattle.p1_normal.specs.Units.{fixing}
use Rattle.p1_normal.specs.Points.{pair_multiple, SamePoint, symbols, is_symbol, pairs, IsBelow}
use Rattle.p1_normal.specs.Tables.{place, IsHead, Marks}
use Rattle.p1_normal.specs.Sieving.{at}
use Rattle.p1_normal.proofs.SamePoints.{SamePoint-pair_multiple}
use Rattle.p1_normal.proofs.NormalForms.{IsBelow-pair_multiple, scaled_is}
use Rattle.p1_normal.proofs.Heads.{head_same}
use Rattle.p1_normal.proofs.Places.{place_inj, pairs_are}
use Rattle.p1_normal.proofs.UnitLists.{fixing_at, fixing_found, fixing_keeps}

-- the number is written at the first k multiples of p by units that keep its first part, and elsewhere at names of p alone
pub record Marked (N : ℕ) (p : Point) (number k : ℕ) (old new : List ℕ) : Type 0 where
  pub size : length new ≡ length old
  pub done : (j : ℕ) → j < k → slice_index new (place N (pair_multiple N (get_or (fixing N p.u) j 0) p)) ≡ number
  pub others : (q : Point) → IsBelow N q → (slice_index new (place N q) ≡ slice_index old (place N q))
      ⊎ ((slice_index new (place N q) ≡ number) × SamePoint N p q)

pub marked_none : (N : ℕ) (p : Point) (number : ℕ) (old : List ℕ) → Marked N p number 0 old old
marked_none N p number old = record { size = refl; done = λ j l. absurd (omega arith); others = λ q below. inl refl }

pub marked_more : (N : ℕ) (p : Point) (number k : ℕ) (old new : List ℕ) → 0 < N → p.u * N + N ≤ length old → k < length (fixing N p.u)
    → Marked N p number k old new →
    Marked N p number (k + 1) old (set new (place N (pair_multiple N (get_or (fixing N p.u) k 0) p)) number)
marked_more N p number k old new some room within h =
    let r : Point = pair_multiple N (get_or (fixing N p.u) k 0) p in
    let r_below : IsBelow N r = IsBelow-pair_multiple N (get_or (fixing N p.u) k 0) p some in
    let row : r.u * N ≡ p.u * N = ap (λ u. u * N) (fixing_keeps N p.u k within) in
    let inside : place N r < length new = omega (arith, row, r_below.second, h.size) in
    record {
      size = length-set new (place N r) number ∙ h.size;
      done = λ j l. elim (cases_eq (place N (pair_multiple N (get_or (fixing N p.u) j 0) p)) (place N r)) [
        | inl same ↦ ap (λ i. slice_index (set new (place N r) number) i) same ∙ written new (place N r) inside
        | inr other ↦ elim (cases_eq j k) [
          | inl is ↦ absurd (other (ap (λ i. place N (pair_multiple N (get_or (fixing N p.u) i 0) p)) is))
          | inr before ↦ kept new (place N r) (place N (pair_multiple N (get_or (fixing N p.u) j 0) p)) other ∙ h.done j (omega arith)
        ]
      ];
      others = λ q below. elim (cases_eq (place N q) (place N r)) [
        | inl same ↦ inr (
          ap (λ i. slice_index (set new (place N r) number) i) same
              ∙ written new (place N r) inside,
          subst (SamePoint N p) (place_inj N r q r_below.second below.second (sym same))
              (SamePoint-pair_multiple N (get_or (fixing N p.u) k 0) p (fixing_at N p.u k within)),
        )
        | inr other ↦ elim (h.others q below) [
          | inl e ↦ inl (kept new (place N r) (place N q) other ∙ e)
          | inr e ↦ inr (kept new (place N r) (place N q) other ∙ e.0, e.1)
        ]
      ];
    }
  where
    written : (xs : List ℕ) (i : ℕ) → i < length xs → slice_index (set xs i number) i ≡ number
    written xs i l = get_or-set_same xs i number 0 l

    kept : (xs : List ℕ) (i j : ℕ) → j ≢ i → slice_index (set xs i number) j ≡ slice_index xs j
    kept xs i j ne = get_or-set_other xs i j number 0 ne

pub marked_all : (N : ℕ) (p : Point) (number : ℕ) (old new : List ℕ) → 0 < N → IsBelow N p → IsHead N p.u
    → Marked N p number (length (fixing N p.u)) old new → Marks N p number old new
marked_all N p number old new some below_p head_p h = record {
  size = h.size;
  named = λ q below head same.
      let one_head : q.u ≡ p.u = sym (head_same N p q below_p below head_p head same) in
      let kept : (same.factor % N * p.u) % N ≡ p.u = ap (λ r. r.u) (scaled_is N p q same below) ∙ one_head in
      let (j, l, e) = fixing_found N p.u same.factor some same.unit kept in
      ap (λ r. slice_index new (place N r)) (sym (scaled_is N p q same below) ∙ ap (λ s. pair_multiple N s p) (sym e)) ∙ h.done j l;
  others = h.others;
}

-- there are at most N N symbols
pub length-symbols : (N : ℕ) → length (symbols N) ≤ N * N
unfolding symbols
length-symbols N = omega (
  arith,
  length-filter_both (is_symbol N) (λ p. not (is_symbol N p)) (λ p. refl) (pairs N),
  ap length (pairs_are N),
  length-map-range_with_len (at N) 0 (N * N),
)

pub small_square : (N : ℕ) → N ≤ MAX_LEVEL → N * N ≤ MAX_LEVEL * MAX_LEVEL
small_square N h = mul-le-mul h h

pub product_small : (N a b : ℕ) → N ≤ MAX_LEVEL → a < N → b < N → a * b ≤ MAX_LEVEL * MAX_LEVEL
product_small N a b h l m = let f : a ≤ MAX_LEVEL = omega arith in let g : b ≤ MAX_LEVEL = omega arith in mul-le-mul f g

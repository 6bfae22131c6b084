-- The unit that turns a number into the head of its multiples.
use Rattle.std.proofs.Common.{◌≡◌, ◌≢◌, ◌+◌, ◌*◌, ◌%◌, ◌<◌, ◌++◌, ℕ, suc, List, [], ◌∷◌, Some, length, get_or, refl, sym, ◌∙◌, ap, subst, inl, inr, arith}
use Rattle.std.specs.Prelude.{slice_get, slice_index}
use Rattle.std.proofs.Math.Nat.{mod-lt, mod-mod, mod-eq_of_lt}
use Rattle.std.proofs.lemmas.Nat.{mul-add-lt}
use Rattle.std.proofs.lemmas.List.{length-append}
use Rattle.std.proofs.lemmas.Option.{none-some, slice_get-get_or}
use Rattle.p1_normal.specs.declared.point.Point.{Point}
use Rattle.p1_normal.specs.declared.tables.Turn.{Turn}
use Rattle.p1_normal.specs.Points.{pair_multiple, SamePoint, common_divisor, normal_form, IsBelow, IsNumber}
use Rattle.p1_normal.specs.Tables.{IsHead, IsTurn, AreTurns, IsNumbering}
use Rattle.p1_normal.proofs.Units.{IsUnit-inverse}
use Rattle.p1_normal.proofs.SamePoints.{undone, SamePoint-pair_multiple, common_divisor-same}
use Rattle.p1_normal.proofs.NormalForms.{IsBelow-pair_multiple, normal_form-same}
use Rattle.p1_normal.proofs.Lists.{get-push_cases}

-- a head is turned into itself
pub turn_own : (N u : ℕ) (turn : Turn) → u < N → IsTurn N u turn → IsHead N u → turn.head ≡ u
turn_own N u turn within h head =
    let back : (h.unit.inverse * turn.head) % N ≡ u = undone N turn.factor h.unit.inverse u turn.head h.unit.gives_one (h.turned ∙ whole)
    ∙ mod-eq_of_lt within in
    omega (arith, head.least turn.factor h.unit, h.head.least h.unit.inverse (IsUnit-inverse N turn.factor h.unit), h.turned)
  where
    whole : turn.head ≡ turn.head % N
    whole = sym h.turned ∙ sym (mod-mod (turn.factor * u) N) ∙ ap (λ n. n % N) h.turned

-- the turns of the numbers below k
pub record AreTurnsBelow (N k : ℕ) (turns : List Turn) : Type 0 where
  pub size : length turns ≡ k
  pub each : (u : ℕ) (turn : Turn) → slice_get turns u ≡ Some turn → IsTurn N u turn

pub turns_none : (N : ℕ) → AreTurnsBelow N 0 []
turns_none N = record { size = refl; each = λ u turn e. absurd (none-some turn e) }

pub turns_more : (N k : ℕ) (turns : List Turn) (turn : Turn) → AreTurnsBelow N k turns → IsTurn N k turn
    → AreTurnsBelow N (k + 1) (turns ++ turn ∷ [])
turns_more N k turns turn h is = record {
  size = omega (arith, length-append turns (turn ∷ []), h.size);
  each = λ u t e. elim (get-push_cases turns turn t u e) [
    | inl old ↦ h.each u t old
    | inr here ↦ subst (λ x. IsTurn N u x) here.1 (subst (λ j. IsTurn N j turn) (sym (here.0 ∙ h.size)) is)
  ];
}

-- the symbol that a turned pair names is that of the pair
pub turned_number : {N : ℕ} {numbers : List ℕ} {turn : Turn} (p : Point) (k : ℕ) → 0 < N → IsBelow N p → IsTurn N p.u turn → IsNumbering N numbers
    → slice_index numbers (turn.head * N + (turn.factor * p.v) % N) ≡ suc k →
    (common_divisor N p ≡ 1) × IsNumber N k (normal_form N p)
turned_number {N} {numbers} {turn} p k some below h table e =
    let q : Point = pair_multiple N turn.factor p in
    let same : SamePoint N p q = SamePoint-pair_multiple N turn.factor p h.unit in
    let (one, stands) = table.some q k (IsBelow-pair_multiple N turn.factor p some) (subst (IsHead N) (sym h.turned) h.head)
    (ap (λ u. slice_index numbers (u * N + (turn.factor * p.v) % N)) h.turned ∙ e) in
    (common_divisor-same same ∙ one, stands ∙ ap Some (sym (normal_form-same N p q some same)))

pub turned_none : {N : ℕ} {numbers : List ℕ} {turn : Turn} (p : Point) → 0 < N → IsBelow N p → IsTurn N p.u turn → IsNumbering N numbers
    → slice_index numbers (turn.head * N + (turn.factor * p.v) % N) ≡ 0 → common_divisor N p ≢ 1
turned_none {N} {numbers} {turn} p some below h table e one =
    let q : Point = pair_multiple N turn.factor p in
    let same : SamePoint N p q = SamePoint-pair_multiple N turn.factor p h.unit in
    table.none q (IsBelow-pair_multiple N turn.factor p some) (subst (IsHead N) (sym h.turned) h.head)
    (ap (λ u. slice_index numbers (u * N + (turn.factor * p.v) % N)) h.turned ∙ e) (sym (common_divisor-same same) ∙ one)

pub turn_at : {N : ℕ} {turns : List Turn} (u : ℕ) (d : Turn) → AreTurns N turns → u < N → IsTurn N u (get_or turns u d)
turn_at {N} {turns} u d h within = h.each u (get_or turns u d) (slice_get-get_or turns u d (let e = h.size in omega arith))

pub turned_place : {N : ℕ} {turn : Turn} (u v : ℕ) → 0 < N → IsTurn N u turn → turn.head * N + (turn.factor * v) % N < N * N
turned_place {N} {turn} u v some h = mul-add-lt turn.head N ((turn.factor * v) % N) N (subst (λ n. n < N) h.turned (mod-lt (turn.factor * u) some))
    (mod-lt (turn.factor * v) some)

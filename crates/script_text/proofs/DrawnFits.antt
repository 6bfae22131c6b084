-- The commands that draws choose keep within their bounds.
use Rattle.std.proofs.Common.{◌≡◌, ℕ, zero, suc, ◌+◌, ◌*◌, ◌%◌, ◌<◌, ◌≤◌, ◌==◌, eq-eqb, nat_eq, if◌then◌else◌, Bool, true, false, get_or, refl, sym, ap, ◌∙◌, arith, inl, inr, lit<}
use Rattle.std.specs.Prelude.{All, filter}
use Rattle.std.specs.List.{range_with_len}
use Rattle.std.proofs.Math.Nat.{mod-lt, add-mul-mod_self_left}
use Rattle.std.proofs.lemmas.Bool.{cases_Bool, cases_lt, eqb-true}
use Rattle.p1_normal.specs.Units.{gcd}
use Rattle.p1_normal.proofs.Units.{gcd_from_IsUnit}
use Rattle.script_text.specs.Draws.{Choice, times, first_state, pick, term, index_from, index, operator, command_of_kind, drawn_command, drawn_space}
use Rattle.script_text.specs.DrawnCommands.{IsDrawnIndex, IsDrawnTerm, IsDrawnOperator, IsDrawnAt, DrawnCommandsFit}
use Rattle.script_text.proofs.DrawLemmas.{All-times}
use Rattle.script_text.proofs.GeneratedLemmas.{drawn_space-is, four_sessions}

-- what a choice chooses is such, from each state
abbrev Chooses : {A : Type 0} → (A → Type 0) → Choice A → Type 0
Chooses P choice = (state : ℕ) → P (choice state).0

-- ---- choices

pick-below : (bound state : ℕ) → 0 < bound → (pick bound state).0 < bound
pick-below bound state some = mod-lt _ some

either : {A : Type 0} (P : A → Type 0) (t : Bool) (x y : Choice A) → Chooses P x → Chooses P y → Chooses P (if t then x else y)
either P true x y a b = a
either P false x y a b = b

-- ---- the index of an operator

-- the first number of a range that passes a test is at most one that does
pub record IsFirst (p : ℕ → Bool) (low high n : ℕ) : Type 0 where
  pub least : low ≤ n
  pub most : n ≤ high
  pub passes : p n ≡ true

pub first_passing : (p : ℕ → Bool) (low k high d : ℕ) → low ≤ high → high < low + k → p high ≡ true
    → IsFirst p low high (get_or (filter p (range_with_len low k)) 0 d)
first_passing p low zero high d above within passes = absurd (omega arith)
first_passing p low (suc k) high d above within passes =
    elim (cases_Bool (p low)) [
      | inl here ↦ rw here (record { least = omega arith; most = omega arith; passes = here })
      | inr other ↦
          elim (cases_lt low high) [
            | inl more ↦
                let later = first_passing p (low + 1) k high d (omega arith) (omega arith) passes in
                rw other (record { least = omega (arith, later.least); most = later.most; passes = later.passes })
            | inr end ↦
                let same : low ≡ high = omega arith in
                let clash : false ≡ true = sym other ∙ ap p same ∙ passes in
                absurd cc
          ]
    ]

-- a number is coprime to the next one
coprime-next : (k : ℕ) → gcd (suc k) (suc (suc k)) ≡ 1
coprime-next k = gcd_from_IsUnit (suc (suc k)) (suc k) (record { inverse = suc k; gives_one = square })
  where
    opened : suc k * suc k ≡ 1 + suc (suc k) * k
    opened = omega arith

    square : (suc k * suc k) % suc (suc k) ≡ 1 % suc (suc k)
    square = ap (λ x. x % suc (suc k)) opened ∙ add-mul-mod_self_left 1 (suc (suc k)) k

coprime-before : (N : ℕ) → 2 ≤ N → (m : ℕ) × (suc m ≡ N) × (gcd m N ≡ 1)
coprime-before zero large = absurd (omega arith)
coprime-before (suc zero) large = absurd (omega arith)
coprime-before (suc (suc k)) large = (suc k, refl, coprime-next k)

index_from-drawn : (N k : ℕ) → 100 ≤ N → N ≤ 200 → 1 ≤ k → k ≤ 20 → IsDrawnIndex N (index_from N k)
index_from-drawn N k low high least most =
    let before = coprime-before N (omega arith) in
    let found = first_passing (λ n. nat_eq (gcd n N) 1) k (N + 1) before.0 1 (omega (arith, before.1)) (omega (arith, before.1))
    (eq-eqb (gcd before.0 N) 1 before.2) in
    record {
      least = omega (arith, found.least);
      most = omega (arith, found.most, before.1);
      below = omega (arith, found.most, before.1);
      coprime = eqb-true _ _ found.passes;
    }

index-drawn : (N : ℕ) → 100 ≤ N → N ≤ 200 → Chooses (IsDrawnIndex N) (index N)
index-drawn N low high state = drawn (pick 20 state).0 (pick-below 20 state (lit< tt))
  where
    drawn : (k : ℕ) → k < 20 → IsDrawnIndex N (index_from N (1 + k))
    drawn k below = index_from-drawn N (1 + k) low high (omega arith) (omega arith)

-- ---- commands

coefficient-drawn : (N c v : ℕ) → c < 9 → v < N → IsDrawnTerm N (record { coefficient = 1 + c; v = v })
coefficient-drawn N c v few below = record { least = omega arith; most = omega arith; below = below }

term-drawn : (N : ℕ) → 0 < N → Chooses (IsDrawnTerm N) (term N)
term-drawn N some state =
    coefficient-drawn N (pick 9 state).0 (pick N (pick 9 state).1).0 (pick-below 9 state (lit< tt)) (pick-below N (pick 9 state).1 some)

operator-drawn : (N : ℕ) → 100 ≤ N → N ≤ 200 → Chooses (IsDrawnOperator N) (operator N)
operator-drawn N low high state =
    either (IsDrawnOperator N) ((pick 4 state).0 == 0) _ _ (λ later. tt) (λ later. index-drawn N low high later) (pick 4 state).1

kind-drawn : (N kind : ℕ) → 100 ≤ N → N ≤ 200 → Chooses (IsDrawnAt N) (command_of_kind N kind)
kind-drawn N kind low high =
    let one = term-drawn N (omega arith) in
    let n = index-drawn N low high in
    either (IsDrawnAt N) (kind == 0) _ _ (λ s. pick-below N s (omega arith))
    (either (IsDrawnAt N) (kind == 1) _ _ (λ s. (one s, one (term N s).1))
    (either (IsDrawnAt N) (kind == 2) _ _ (λ s. (n s, one (index N s).1, one (term N (index N s).1).1))
    (either (IsDrawnAt N) (kind == 3) _ _ (λ s. (n s, one (index N s).1))
    (either (IsDrawnAt N) (kind == 4) _ _ (λ s. one s)
    (either (IsDrawnAt N) (kind == 5) _ _ (λ s. (one s, one (term N s).1))
    (either (IsDrawnAt N) (kind == 6) _ _ (λ s. tt)
    (λ s. (operator-drawn N low high s, pick-below 10 (operator N s).1 (lit< tt)))))))))

command-drawn : (N : ℕ) → 100 ≤ N → N ≤ 200 → Chooses (IsDrawnAt N) (drawn_command N)
unfolding drawn_command
command-drawn N low high state = kind-drawn N (pick 8 state).0 low high (pick 8 state).1

-- ---- drawings

pub drawings-drawn : DrawnCommandsFit
drawings-drawn seed =
    let space = drawn_space (first_state seed) in
    let is = drawn_space-is (first_state seed) in
    record {
      four_sessions = four_sessions seed;
      drawn = All-times (All (IsDrawnAt space.0.modulus)) 4 (times 40 (drawn_command space.0.modulus)) space.1
          (λ s. All-times (IsDrawnAt space.0.modulus) 40 (drawn_command space.0.modulus) s (command-drawn space.0.modulus is.least is.most));
    }

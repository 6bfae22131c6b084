-- The entries of a matrix of Merel's set: their bounds, and the quotient that gives the last of them.
use Rattle.std.proofs.Common.{◌≡◌, ◌+◌, ◌*◌, ◌-◌, ◌<◌, ◌≤◌, ℕ, sym, ◌∙◌, ap, subst, inl, inr, arith}
use Rattle.std.proofs.lemmas.Bool.{cases_eq, cases_lt}

-- the entries b < a, c < d with a d - b c = n
pub record AreEntries (n a b c d : ℕ) : Type 0 where
  pub left : b < a
  pub right : c < d
  pub value : a * d ≡ n + b * c

-- the quotient and remainder of n + b c by a
pub record AreParts (n a b c quotient rest : ℕ) : Type 0 where
  pub value : a * quotient + rest ≡ n + b * c
  pub below : rest < a

-- of products of sums above b and c
sum_bound : (n b c i j : ℕ) → (b + 1 + i) * (c + 1 + j) ≡ n + b * c → b + 1 + i + (c + 1 + j) ≤ n + 1
sum_bound n b c i j h = omega (arith, h)

-- the trace is at most n + 1
pub entries_sum : (n a b c d : ℕ) → AreEntries n a b c d → a + d ≤ n + 1
entries_sum n a b c d h =
    let i = a - (b + 1) in
    let j = d - (c + 1) in
    let l = h.left in
    let r = h.right in
    let e : a ≡ b + 1 + i = omega arith in
    let f : d ≡ c + 1 + j = omega arith in
    let v : (b + 1 + i) * (c + 1 + j) ≡ n + b * c = ap (λ x. x * (c + 1 + j)) (sym e) ∙ ap (λ y. a * y) (sym f) ∙ h.value in
    omega (arith, sum_bound n b c i j v)

-- a quotient above c is at most n
pub quotient_le : (n a b c q r : ℕ) → b < a → c < q → AreParts n a b c q r → q ≤ n
quotient_le n a b c q r l m h =
    let i = a - (b + 1) in
    let j = q - (c + 1) in
    let e : a ≡ b + 1 + i = omega arith in
    let f : q ≡ c + 1 + j = omega arith in
    let v : (b + 1 + i) * (c + 1 + j) + r ≡ n + b * c = ap (λ x. x * (c + 1 + j) + r) (sym e) ∙ ap (λ y. a * y + r) (sym f) ∙ h.value in
    omega (arith, bound n b c i j r v)
  where
    bound : (n b c i j r : ℕ) → (b + 1 + i) * (c + 1 + j) + r ≡ n + b * c → c + 1 + j ≤ n
    bound n b c i j r h = omega (arith, h)

-- a multiple of a is no quotient and remainder with a smaller quotient
far : (a q d r : ℕ) → r < a → a * d ≡ a * q + r → q < d → ⊥
far a q d r l h m =
    let k = d - (q + 1) in
    let e : d ≡ q + 1 + k = omega arith in
    let v : a * (q + 1 + k) ≡ a * q + r = ap (λ y. a * y) (sym e) ∙ h in
    omega (arith, v)

-- nor with a larger one
near : (a q d r : ℕ) → r < a → a * d ≡ a * q + r → d < q → ⊥
near a q d r l h m =
    let k = q - (d + 1) in
    let e : q ≡ d + 1 + k = omega arith in
    let v : a * d ≡ a * (d + 1 + k) + r = h ∙ ap (λ y. a * y + r) e in
    omega (arith, v)

-- the last entry is the quotient
pub last_is : (n a b c d q r : ℕ) → AreParts n a b c q r → AreEntries n a b c d → d ≡ q
last_is n a b c d q r h k =
    let e : a * d ≡ a * q + r = k.value ∙ sym h.value in
    elim (cases_eq d q) [
      | inl same ↦ same
      | inr other ↦ elim (cases_lt q d) [
        | inl above ↦ absurd (far a q d r h.below e above)
        | inr below ↦ absurd (near a q d r h.below e (omega arith))
      ]
    ]

-- and nothing is left
pub rest_is : (n a b c d q r : ℕ) → AreParts n a b c q r → AreEntries n a b c d → r ≡ 0
rest_is n a b c d q r h k =
    let e : a * d ≡ a * q + r = k.value ∙ sym h.value in
    let f : a * q ≡ a * q + r = ap (λ y. a * y) (sym (last_is n a b c d q r h k)) ∙ e in
    omega (arith, f)

-- once the quotient is at most c, no larger c has a last entry
pub none_past : (n a b c q r e d : ℕ) → AreParts n a b c q r → q ≤ c → c ≤ e → AreEntries n a b e d → ⊥
none_past n a b c q r e d h l m k =
    let i = a - (b + 1) in
    let u = c - q in
    let t = e - c in
    let s = d - (e + 1) in
    let left = k.left in
    let right = k.right in
    let f : a ≡ b + 1 + i = omega arith in
    let g : c ≡ q + u = omega arith in
    let o : e ≡ q + u + t = omega arith in
    let p : d ≡ q + u + t + 1 + s = omega arith in
    let first : (b + 1 + i) * q + r ≡ n + b * (q + u) = ap (λ x. x * q + r) (sym f) ∙ h.value ∙ ap (λ x. n + b * x) g in
    let second : (b + 1 + i) * (q + u + t + 1 + s) ≡ n + b * (q + u + t) = ap (λ x. x * (q + u + t + 1 + s)) (sym f) ∙ ap (λ y. a * y) (sym p)
    ∙ k.value ∙ ap (λ x. n + b * x) o in
    let below : r < b + 1 + i = subst (λ x. r < x) f h.below in
    past n b q r i u t s first second below
  where
    past : (n b q r i u t s : ℕ) → (b + 1 + i) * q + r ≡ n + b * (q + u) → (b + 1 + i) * (q + u + t + 1 + s) ≡ n + b * (q + u + t) → r < b + 1 + i → ⊥
    past n b q r i u t s first second below = omega (arith, first, second)

-- one step further: what is divided grows by b
pub parts_more : (n a b c q r q' r' : ℕ) → AreParts n a b c q r → a * q' + r' ≡ a * q + r + b → r' < a → AreParts n a b (c + 1) q' r'
parts_more n a b c q r q' r' h e l = record { value = e ∙ ap (λ x. x + b) h.value ∙ omega arith; below = l }

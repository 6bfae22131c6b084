-- Pairs of columns: lists that hold them, and what replies add.
use Rattle.std.proofs.Common.{◌≡◌, ◌⊎◌, ℕ, Bool, true, false, List, [], ◌∷◌, ◌++◌, nat_eq, ◌&&◌, ◌||◌, refl, sym, ◌∙◌, ap, subst, inl, inr}
use Rattle.std.specs.Set.{is_member}
use Rattle.std.specs.Cmp.{IsEquivalence, and_equiv, on_equiv, nat_eq_equiv}
use Rattle.std.proofs.lemmas.Bool.{true≢false, eqb-true, or_cases, or_left, or_right}
use Rattle.std.proofs.lemmas.List.Folds.{list_any-append}
use Rattle.session_core.specs.Demands.{is_pair, Has, HasAll, Adds}

-- two lists hold what or_cases holds
pub Has-append_left : (xs ys : List (ℕ × ℕ)) (q : ℕ × ℕ) → Has xs q → Has (xs ++ ys) q
Has-append_left xs ys q h = list_any-append (is_pair q) xs ys ∙ or_left (is_member is_pair xs q) (is_member is_pair ys q) h

pub Has-append_right : (xs ys : List (ℕ × ℕ)) (q : ℕ × ℕ) → Has ys q → Has (xs ++ ys) q
Has-append_right xs ys q h = list_any-append (is_pair q) xs ys ∙ or_right (is_member is_pair xs q) (is_member is_pair ys q) h

pub Has-from_append : (xs ys : List (ℕ × ℕ)) (q : ℕ × ℕ) → Has (xs ++ ys) q → Has xs q ⊎ Has ys q
Has-from_append xs ys q h = or_cases (is_member is_pair xs q) (is_member is_pair ys q) (sym (list_any-append (is_pair q) xs ys) ∙ h)

-- nothing is in no list
pub Has-nil : (q : ℕ × ℕ) → Has [] q → ⊥
Has-nil q h = true≢false (sym h)

-- pairs that pass the test are one
pub is_pair-eq : (a b : ℕ × ℕ) → is_pair a b ≡ true → a ≡ b
is_pair-eq (a, b) (c, d) e = by (nat_eq a c) (nat_eq b d) (eqb-true a c) (eqb-true b d) e
  where
    by : (s t : Bool) → (s ≡ true → a ≡ c) → (t ≡ true → b ≡ d) → (s && t) ≡ true → ◌≡◌ {A = ℕ × ℕ} (a, b) (c, d)
    by true true f g h = ap (λ x. (x, b)) (f refl) ∙ ap (λ y. (c, y)) (g refl)
    by true false f g h = absurd (true≢false (sym h))
    by false t f g h = absurd (true≢false (sym h))

-- the test is an equivalence
pub is_pair-equivalence : IsEquivalence is_pair
is_pair-equivalence = and_equiv (on_equiv (λ (t : ℕ × ℕ). t.0) nat_eq_equiv) (on_equiv (λ (t : ℕ × ℕ). t.1) nat_eq_equiv)

-- the one pair of a list
pub Has-one : (k q : ℕ × ℕ) → Has (k ∷ []) q → q ≡ k
Has-one k q h = is_pair-eq q k (only (is_pair q k) h)
  where
    only : (t : Bool) → (t || false) ≡ true → t ≡ true
    only true e = refl
    only false e = e

pub Has-it : (k : ℕ × ℕ) → Has (k ∷ []) k
Has-it k = or_left (is_pair k k) false (is_pair-equivalence.refl k)

-- a table that stays adds of any pairs
pub Adds_refl : (pairs xs : List (ℕ × ℕ)) → Adds pairs xs xs
Adds_refl pairs xs = record { kept = λ q h. h; only = λ q h. inl h }

pub Adds-same : (pairs xs ys : List (ℕ × ℕ)) → ys ≡ xs → Adds pairs xs ys
Adds-same pairs xs ys e = subst (Adds pairs xs) (sym e) (Adds_refl pairs xs)

-- one after another
pub Adds_trans : (a b xs ys zs : List (ℕ × ℕ)) → Adds a xs ys → Adds b ys zs → Adds (a ++ b) xs zs
Adds_trans a b xs ys zs f g = record {
  kept = λ q h. g.kept q (f.kept q h);
  only = λ q h. elim (g.only q h) [
    | inl before ↦ elim (f.only q before) [
      | inl first ↦ inl first
      | inr some ↦ inr (Has-append_left a b q some)
    ]
    | inr some ↦ inr (Has-append_right a b q some)
  ];
}

-- one more pair at the end
pub Adds-push : (k : ℕ × ℕ) (xs : List (ℕ × ℕ)) → Adds (k ∷ []) xs (xs ++ k ∷ [])
Adds-push k xs = record { kept = λ q h. Has-append_left xs (k ∷ []) q h; only = λ q h. Has-from_append xs (k ∷ []) q h }

-- more pairs may be added
pub Adds-of_more : (a b xs ys : List (ℕ × ℕ)) → ((q : ℕ × ℕ) → Has a q → Has b q) → Adds a xs ys → Adds b xs ys
Adds-of_more a b xs ys more h = record {
  kept = h.kept;
  only = λ q has. elim (h.only q has) [
    | inl before ↦ inl before
    | inr some ↦ inr (more q some)
  ];
}

-- a table that has all of two lists has all of both together
pub HasAll-append : (xs a b : List (ℕ × ℕ)) → HasAll xs a → HasAll xs b → HasAll xs (a ++ b)
HasAll-append xs a b f g q h = elim (Has-from_append a b q h) [
  | inl first ↦ f q first
  | inr second ↦ g q second
]

-- it has one pair
pub HasAll-one : (xs : List (ℕ × ℕ)) (k : ℕ × ℕ) → Has xs k → HasAll xs (k ∷ [])
HasAll-one xs k h q one = subst (Has xs) (sym (Has-one k q one)) h

-- a greater table has them too
pub HasAll_grows : (xs ys a b : List (ℕ × ℕ)) → Adds b xs ys → HasAll xs a → HasAll ys a
HasAll_grows xs ys a b adds h q some = adds.kept q (h q some)

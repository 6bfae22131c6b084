-- Lists of views in which one was changed.
use Rattle.std.proofs.Common.{true, false, inl, inr, zero, suc, ◌≡◌, ◌≢◌, ◌⊎◌, ℕ, ◌+◌, ◌<◌, List, [], ◌∷◌, ◌++◌, length, set, refl, sym, subst, ap, ◌∙◌, ⊎_elim, arith}
use Rattle.std.specs.List.{AllByRecursion}
use mathlib.Core.Logic.{dite}
use mathlib.Core.Option.{some, some-injective, some-ne-none}
use native.Mathlib.Decide.{ℕ_discrete}
use lib.ListN.{get_elem?}
use Rattle.atomic_table.proofs.Lists.{at_set, set_here, set_else}
use Rattle.turn_board.specs.declared.view.View.{View}
use Rattle.turn_board.specs.History.{AreApart, AreDistinct, CountsGiven, IsHeld}

pub at_length : {A : Type 0} (l : List A) (i : ℕ) (a : A) → get_elem? l i ≡ some a → i < length l
at_length [] i a e = absurd (some-ne-none a (sym e))
at_length (x ∷ xs) zero a e = omega arith
at_length (x ∷ xs) (suc i) a e = let h = at_length xs i a e in omega arith

module _ {E : Type 0} where
  -- a step leaves these as they were
  pub record Alike (v w : View E) : Type 0 where
    pub live : w.is_live ≡ v.is_live
    pub number : w.number ≡ v.number
    pub joined : w.joined ≡ v.joined

  pub alike : (v : View E) → Alike v v
  alike v = record { live = refl; number = refl; joined = refl }

  -- what stood where a view stands now
  pub origin : (vs : List (View E)) (id : ℕ) (v w : View E) → get_elem? vs id ≡ some v → Alike v w
      → (j : ℕ) (a : View E) → get_elem? (set vs id w) j ≡ some a → (x : View E) × (get_elem? vs j ≡ some x) × Alike x a
  origin vs id v w at same j a e = ⊎_elim
      (λ (t : (j ≡ id) × (w ≡ a)). (v, subst (λ (n : ℕ). get_elem? vs n ≡ some v) (sym t.0) at, subst (Alike v) t.1 same))
      (λ (t : (j ≢ id) × (get_elem? vs j ≡ some a)). (a, t.1, alike a))
      (at_set vs id j w a e)

  -- what stands now where a view stood
  pub image : (vs : List (View E)) (id : ℕ) (v w : View E) → get_elem? vs id ≡ some v → Alike v w
      → (j : ℕ) (x : View E) → get_elem? vs j ≡ some x → (a : View E) × (get_elem? (set vs id w) j ≡ some a) × Alike x a
  image vs id v w at same j x e = dite (ℕ_discrete j id)
      (λ (here : j ≡ id).
      let it : v ≡ x = some-injective v x (sym at ∙ (subst (λ (n : ℕ). get_elem? vs n ≡ some x) here e)) in (
        w,
        subst (λ (n : ℕ). get_elem? (set vs id w) n ≡ some w) (sym here) (set_here vs id w (at_length vs id v at)),
        subst (λ (y : View E). Alike y w) it same,
      ))
      (λ away. (x, set_else vs id j w away ∙ e, alike x))

  pub set_distinct : (vs : List (View E)) (id : ℕ) (v w : View E) → get_elem? vs id ≡ some v → Alike v w → AreDistinct vs → AreDistinct (set vs id w)
  set_distinct vs id v w at same d j k a b ea eb la lb e =
      let x = origin vs id v w at same j a ea in
      let y = origin vs id v w at same k b eb in
      d j k x.0 y.0 x.1 y.1 (sym x.2.live ∙ la) (sym y.2.live ∙ lb) (sym x.2.number ∙ (e ∙ y.2.number))

  pub set_apart : (vs : List (View E)) (id : ℕ) (v w : View E) → get_elem? vs id ≡ some v → Alike v w → AreApart vs → AreApart (set vs id w)
  set_apart vs id v w at same d j k a b ea eb la lb =
      let x = origin vs id v w at same j a ea in
      let y = origin vs id v w at same k b eb in
      let old = d j k x.0 y.0 x.1 y.1 (sym x.2.live ∙ la) (sym y.2.live ∙ lb) in
      subst (λ n. AllByRecursion (λ p. ¬ (p.number ≡ n)) a.joined) (sym y.2.number)
      (subst (AllByRecursion (λ p. ¬ (p.number ≡ y.0.number))) (sym x.2.joined) old)

  pub set_holder : (vs : List (View E)) (id : ℕ) (v w : View E) → get_elem? vs id ≡ some v → Alike v w → (turn_word : ℕ) → IsHeld vs turn_word →
      IsHeld (set vs id w) turn_word
  set_holder vs id v w at same turn_word h =
      let a = image vs id v w at same h.0 h.1 h.2 in
      (h.0, a.0, a.1, a.2.live ∙ h.3, h.4 ∙ ap (λ n. n + 1) (sym a.2.number))

  pub set_dealer : (vs : List (View E)) (id : ℕ) (v w : View E) → get_elem? vs id ≡ some v → w.is_live ≡ v.is_live → w.given ≡ v.given → (given : ℕ) →
      CountsGiven vs given → CountsGiven (set vs id w) given
  set_dealer vs id v w at live same given h a e alive = ⊎_elim
      (λ (t : (0 ≡ id) × (w ≡ a)). sym (ap (λ u. u.given) t.1) ∙ (same
      ∙ h v (subst (λ (n : ℕ). get_elem? vs n ≡ some v) (sym t.0) at) (sym live ∙ (ap (λ u. u.is_live) t.1 ∙ alive))))
      (λ (t : (0 ≢ id) × (get_elem? vs 0 ≡ some a)). h a t.1 alive)
      (at_set vs id 0 w a e)

  -- what stands where one view came last
  pub at_snoc : (vs : List (View E)) (a b : View E) (j : ℕ) → get_elem? (vs ++ a ∷ []) j ≡ some b →
      (get_elem? vs j ≡ some b) ⊎ ((j ≡ length vs) × (a ≡ b))
  at_snoc [] a b zero e = inr (refl, some-injective a b e)
  at_snoc [] a b (suc j) e = absurd (some-ne-none b (sym e))
  at_snoc (x ∷ xs) a b zero e = inl e
  at_snoc (x ∷ xs) a b (suc j) e = ⊎_elim (λ t. inl t) (λ t. inr (ap suc t.0, t.1)) (at_snoc xs a b j e)

  -- what stands where one view changed and another was spent
  pub at_joined : (vs : List (View E)) (id other : ℕ) (c spent : View E) → spent.is_live ≡ false → (k : ℕ) (u : View E) →
      get_elem? (set (set vs id c) other spent) k ≡ some u → u.is_live ≡ true
      → ((k ≡ id) × (c ≡ u)) ⊎ ((k ≢ id) × (k ≢ other) × (get_elem? vs k ≡ some u))
  at_joined vs id other c spent dead k u e alive = ⊎_elim
      (λ (t : (k ≡ other) × (spent ≡ u)). absurd (let q : spent.is_live ≡ true = ap (λ (y : View E). y.is_live) t.1 ∙ alive in cc))
      (λ (t : (k ≢ other) × (get_elem? (set vs id c) k ≡ some u)). ⊎_elim
      (λ (r : (k ≡ id) × (c ≡ u)). inl r)
      (λ (r : (k ≢ id) × (get_elem? vs k ≡ some u)). inr (r.0, t.0, r.1))
      (at_set vs id k c u t.1))
      (at_set (set vs id c) other k spent u e)

-- The state of a board whose passes were all joined into one.
use Rattle.std.proofs.Common.{true, false, ◌≡◌, ℕ, ◌+◌, ◌<◌, ◌≤◌, List, sym, subst, ap, ◌∙◌, ⊎_elim, arith}
use Rattle.std.specs.Prelude.{Option, Some}
use Rattle.std.specs.List.{AllByRecursion}
use mathlib.Core.Logic.{dite}
use mathlib.Core.Option.{some}
use native.Mathlib.Decide.{ℕ_discrete}
use lib.ListN.{get_elem?}
use Rattle.atomic_table.specs.Table.{Final, Seen, State}
use Rattle.turn_board.specs.History.{BoardHistory}
use Rattle.turn_board.specs.Views.{HasSeen, IsAmong, pasts, past_of}
use Rattle.turn_board.specs.declared.view.View.{View}
use Rattle.turn_board.specs.declared.view.Past.{Past}
use Rattle.turn_board.proofs.Merging.{among_all}
use Rattle.turn_board.proofs.Prefixes.{all_map}

module _ {S E : Type 0} (entries : S → List E) (maker : E → ℕ) (label_of : S → List ℕ) (label : List ℕ) (passes : ℕ) where
  -- no pass is left that could have the turn
  free : (s : State (Option S) (View E)) (b : BoardHistory entries maker label_of label passes s) (id : ℕ) (v : View E) →
      get_elem? s.views id ≡ some v → v.is_live ≡ true → v.has_turn ≡ false
      → ((n : ℕ) → n < passes → (p : Past E) × IsAmong p (pasts v) × (p.number ≡ n)) → b.turn_word ≡ 0
  free s b id v at live idle whole = dite (ℕ_discrete b.turn_word 0) (λ z. z) (λ busy.
      let h = b.holder busy in
      let fits = b.views h.0 h.1 h.2 h.3 in
      let p = whole h.1.number (let n = fits.numbered in let m = b.granted in omega arith) in
      ⊎_elim
      (λ (e : past_of v ≡ p.0).
      let same : v.number ≡ h.1.number = ap (λ (y : Past E). y.number) e ∙ p.2 in
      let turn : v.has_turn ≡ true = (b.views id v at live).found (h.4 ∙ ap (λ n. n + 1) (sym same)) in
      absurd cc)
      (λ (t : IsAmong p.0 v.joined). absurd (among_all (λ y. ¬ (y.number ≡ h.1.number)) p.0 v.joined (b.apart id h.0 v h.1 at h.2 live h.3) t p.2))
      p.1)

  pub record Closed (v : View E) (x : S) : Type 0 where
    pub about : label_of x ≡ label
    pub seen : (p : Past E) → IsAmong p (pasts v) → HasSeen maker p.number p.seen (entries x)
    pub makers : AllByRecursion (λ e. (0 < maker e) × (maker e ≤ passes)) (entries x)

  pub closes : (id : ℕ) (v : View E) (ws : List ℕ) (xs : List (Option S)) →
      Final (Seen (BoardHistory entries maker label_of label passes) id v) ws xs → v.is_live ≡ true → v.has_turn ≡ false
      → ((n : ℕ) → n < passes → (p : Past E) × IsAmong p (pasts v) × (p.number ≡ n))
      → (x : S) × (get_elem? xs 0 ≡ some (Some x)) × Closed v x
  closes id v ws xs final live idle whole =
      let s = final.0 in
      let b = final.1.0 in
      let at = final.1.1 in
      let fits = b.views id v at live in
      let h = b.home (free s b id v at live idle whole) in (
        h.0,
        final.4 0 (Some h.0) (ap (λ l. get_elem? l 0) h.1),
        record {
          about = h.3;
          seen = λ p k. subst (HasSeen maker p.number p.seen) (sym h.2) (⊎_elim
              (λ (e : past_of v ≡ p). subst (λ (y : Past E). HasSeen maker y.number y.seen b.log) e fits.seen)
              (λ (t : IsAmong p v.joined). (among_all (λ y. (y.number < b.given) × HasSeen maker y.number y.seen b.log) p v.joined fits.joined t).1)
              k);
          makers = subst (AllByRecursion (λ e. (0 < maker e) × (maker e ≤ passes))) (sym h.2)
              (all_map (λ e. (0 < maker e) × (maker e ≤ b.given)) (λ e. (0 < maker e) × (maker e ≤ passes)) b.log
              (λ e t. (t.0, (let m = t.1 in let n = b.granted in omega arith))) b.makers);
        },
      )

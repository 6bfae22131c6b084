-- A board as it is opened, and the list of its passes.
use Rattle.std.proofs.Common.{zero, suc, ◌≡◌, ℕ, ◌+◌, ◌≤◌, List, [], ◌∷◌, ◌++◌, length, refl, sym, subst, ap, ◌∙◌, arith}
use Rattle.std.specs.Prelude.{Some}
use Rattle.std.specs.List.{AllByRecursion, AllZip, range_with_len}
use mathlib.Core.Option.{some, some-injective, some-ne-none}
use lib.ListN.{get_elem?}
use Rattle.atomic_table.specs.Table.{opening}
use Rattle.turn_board.specs.History.{Fits, BoardHistory}
use Rattle.turn_board.specs.Views.{opening_view}
use Rattle.turn_board.specs.declared.view.View.{View}
use Rattle.turn_board.proofs.Prefixes.{seen_all}

only : {A : Type 0} (a b : A) (k : ℕ) → get_elem? (a ∷ []) k ≡ some b → (k ≡ 0) × (a ≡ b)
only a b zero e = (refl, some-injective a b e)
only a b (suc k) e = absurd (some-ne-none b (sym e))

pub opens : {S E : Type 0} (entries : S → List E) (maker : E → ℕ) (label_of : S → List ℕ) (label : List ℕ) (passes : ℕ) (x : S)
    → entries x ≡ [] → label_of x ≡ label → 1 ≤ passes → BoardHistory entries maker label_of label passes
    (opening (0 ∷ 0 ∷ []) (Some x ∷ []) (opening_view label passes))
opens {E} entries maker label_of label passes x none about some_pass =
    let first : View E = opening_view label passes in
    record {
      log = [];
      turn_word = 0;
      given = 1;
      words = refl;
      home = λ z. (x, refl, none, about);
      out = λ z. absurd (z refl);
      granted = some_pass;
      makers = tt;
      holder = λ z. absurd (z refl);
      dealer = λ v e alive. sym (ap (λ (y : View E). y.given) (only first v 0 e).1);
      views = λ k v e alive. subst (Fits maker [] label passes 1 0) (only first v k e).1
          record {
            numbered = omega arith;
            about = (refl, refl);
            seen = seen_all maker 0 [];
            taken = λ z. absurd cc;
            found = λ z. absurd (omega arith);
            joined = tt;
          };
      distinct = λ j k v w ev ew lv lw same. (only first v j ev).0 ∙ sym (only first w k ew).0;
      apart = λ j k v w ev ew lv lw. subst (λ (y : View E). AllByRecursion (λ p. ¬ (p.number ≡ w.number)) y.joined) (only first v j ev).1 tt;
    }

module _ {A : Type 0} (R : ℕ → A → Type 0) where
  -- one more, with the next number
  pub next_zip : (a : ℕ) (xs : List A) (x : A) → AllZip R (range_with_len a (length xs)) xs → R (a + length xs) x →
      AllZip R (range_with_len a (length (xs ++ x ∷ []))) (xs ++ x ∷ [])
  next_zip a [] x h r = (subst (λ n. R n x) (omega arith) r, tt)
  next_zip a (y ∷ ys) x h r = (h.0, next_zip (a + 1) ys x h.1 (subst (λ n. R n x) (omega arith) r))

  -- the first one comes last
  pub first_zip : (n : ℕ) (xs : List A) (x : A) → n ≡ length xs + 1 → AllZip R (range_with_len 1 (length xs)) xs → R 0 x →
      AllZip R (range_with_len 0 n) (x ∷ xs)
  first_zip n xs x e h r =
      let here : AllZip R (range_with_len 0 (suc (length xs))) (x ∷ xs) = (r, h) in
      let long : suc (length xs) ≡ n = omega arith in
      subst (λ (k : ℕ). AllZip R (range_with_len 0 k) (x ∷ xs)) long here

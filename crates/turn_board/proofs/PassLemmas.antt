-- A pass before and after calls.
use Rattle.std.proofs.Common.{zero, suc, ◌≡◌, ℕ, ◌+◌, ◌<◌, ◌≤◌, List, [], ◌∷◌, ◌++◌, length, refl, sym, ap, subst, ◌∙◌, arith, append_assoc}
use Rattle.std.specs.declared.cmp.PartialEq.{Ghosts as Equality}
use mathlib.Core.List.{IsPrefix}
use mathlib.Core.Logic.{dite}
use native.Mathlib.Decide.{ℕ_discrete}
use Rattle.turn_board.specs.declared.kept.Kept.{Ghosts}
use Rattle.turn_board.specs.declared.board.Board.{Board}
use Rattle.turn_board.specs.declared.pass.Pass.{Pass}
use Rattle.turn_board.specs.Passes.{AreAll, Continues, IsIdle, IsNew, opening_state, pass_count, view}
use Rattle.turn_board.specs.Views.{new_view}
use Rattle.std.specs.List.{AllZip, Any, range_with_len}
use Rattle.turn_board.proofs.Opening.{next_zip}
use Rattle.turn_board.proofs.Prefixes.{whole}

pub prefix_trans : {E : Type 0} (xs ys zs : List E) → IsPrefix xs ys → IsPrefix ys zs → IsPrefix xs zs
prefix_trans xs ys zs p q = (p.0 ++ q.0, sym (append_assoc xs p.0 q.0) ∙ ap (λ l. l ++ q.0) p.1 ∙ q.1)

module _ {S E : Type 0} {g : Ghosts S E} {q : Equality E} where
  pub continues_refl : (p : Pass S E g q) → Continues p p
  continues_refl p = record {
    table = refl;
    number = refl;
    label = refl;
    passes = refl;
    seen = whole (view p).seen;
    tries = omega arith;
    loads =
        omega arith;
  }

  pub continues_trans : (a b c : Pass S E g q) → Continues a b → Continues b c → Continues a c
  continues_trans a b c h k = record {
    table = k.table ∙ h.table;
    number = k.number ∙ h.number;
    label = k.label ∙ h.label;
    passes = k.passes ∙ h.passes;
    seen = prefix_trans (view a).seen (view b).seen (view c).seen h.seen k.seen;
    tries = (let m = h.tries in let n = k.tries in omega arith);
    loads = (let m = h.loads in let n = k.loads in omega arith);
  }

  pub new_pass : (board : Board S E) (pass : Pass S E g q) (number given : ℕ) → pass.seat.table_id ≡ board.table.shared.table_id →
      view pass ≡ new_view (g.label (opening_state board)) (pass_count board) number given → IsNew board number pass
  new_pass board pass number given table is = record {
    of = record { table = table; label = ap (λ v. v.label) is; passes = ap (λ v. v.passes) is };
    fresh = subst (λ (n : ℕ). view pass ≡ new_view (g.label (opening_state board)) (pass_count board) number n) (sym (ap (λ v. v.given) is)) is;
  }

  -- the list of the new passes, one longer
  pub dealt_next : (board : Board S E) (list : List (Pass S E g q)) (pass : Pass S E g q) (number given : ℕ) → 1 + length list ≡ number →
      pass.seat.table_id ≡ board.table.shared.table_id
      → view pass ≡ new_view (g.label (opening_state board)) (pass_count board) number given
      → AllZip (IsNew board) (range_with_len 1 (length list)) list →
      AllZip (IsNew board) (range_with_len 1 (length (list ++ pass ∷ []))) (list ++ pass ∷ [])
  dealt_next board list pass number given next table is h = next_zip (IsNew board) 1 list pass h
      (subst (λ n. IsNew board n pass) (sym next) (new_pass board pass number given table is))

  numbered_from : (a n : ℕ) (list : List (Pass S E g q)) → AllZip (λ k pass. (view pass).number ≡ k) (range_with_len a n) list → (k : ℕ) → a ≤ k →
      k < a + n → Any (λ pass. (view pass).number ≡ k) list
  numbered_from a zero list h k low high = absurd (omega arith)
  numbered_from a (suc n) [] h k low high = absurd h
  numbered_from a (suc n) (pass ∷ rest) h k low high = dite (ℕ_discrete k a)
      (λ here. (0, pass, omega arith, refl, h.0 ∙ sym here))
      (λ past. let r = numbered_from (a + 1) n rest h.1 k (omega arith) (omega arith) in (suc r.0, r.1, (let lt = r.2 in omega arith), r.3, r.4))

  -- passes in the order of their numbers are all passes
  pub numbered : (board : Board S E) (n : ℕ) (list : List (Pass S E g q)) → pass_count board ≡ n →
      AllZip (λ k pass. (view pass).number ≡ k) (range_with_len 0 n) list → AreAll board list
  numbered board n list count h k lt = numbered_from 0 n list h k (omega arith) (omega arith)

  zip_map : (P R : ℕ → Pass S E g q → Type 0) → ((k : ℕ) (pass : Pass S E g q) → P k pass → R k pass) → (ks : List ℕ) (list : List (Pass S E g q)) →
      AllZip P ks list → AllZip R ks list
  zip_map P R f [] [] h = tt
  zip_map P R f (k ∷ ks) (pass ∷ rest) h = (f k pass h.0, zip_map P R f ks rest h.1)
  zip_map P R f [] (pass ∷ rest) h = absurd h
  zip_map P R f (k ∷ ks) [] h = absurd h

  -- idle passes in the order of their numbers are all passes
  pub idle_all : (board : Board S E) (n : ℕ) (list : List (Pass S E g q)) → pass_count board ≡ n →
      AllZip (IsIdle board) (range_with_len 0 n) list → AreAll board list
  idle_all board n list count h = numbered board n list count
      (zip_map (IsIdle board) (λ k pass. (view pass).number ≡ k) (λ k pass is. is.number_is) (range_with_len 0 n) list h)

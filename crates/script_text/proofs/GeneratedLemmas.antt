-- What every drawn script keeps.
use Rattle.std.proofs.Common.{◌≡◌, ℕ, ◌<◌, ◌≤◌, true, List, length, get_or, nat_eq, refl, sym, ◌∙◌, arith, eq-eqb}
use Rattle.std.proofs.lemmas.List.Folds.{list_any_at}
use Rattle.std.proofs.lemmas.Slice.Zip.{AllZip-long}
use Rattle.field_table.specs.declared.table.TheConstants.{CHARACTERISTICS}
use Rattle.field_table.specs.Table.{IsListed}
use Rattle.script_text.specs.declared.drawn.DrawnCommand.{DrawnCommand}
use Rattle.script_text.specs.declared.space.SpaceLine.{SpaceLine}
use Rattle.script_text.specs.Valid.{IsSpace}
use Rattle.script_text.specs.Draws.{first_state, times, pick, drawn_command, drawn_text, drawn_space, drawing, generated, HasFourSessions}
use Rattle.script_text.proofs.DrawLemmas.{length-times, All-times, AllZip-blocks}

listed_at : (place : ℕ) → place < 12 → IsListed (get_or CHARACTERISTICS place 0)
listed_at place within =
    let here : nat_eq (get_or CHARACTERISTICS place 0) (get_or CHARACTERISTICS place 0) ≡ true =
    eq-eqb (get_or CHARACTERISTICS place 0) (get_or CHARACTERISTICS place 0) refl in
    let listed : place < 14 = omega arith in
    list_any_at (nat_eq (get_or CHARACTERISTICS place 0)) CHARACTERISTICS place 0 listed here

pub record IsDrawnSpace (space : SpaceLine) : Type 0 where
  pub least : 100 ≤ space.modulus
  pub most : space.modulus ≤ 200
  pub listed : IsListed space.characteristic

pub drawn_space-is : (state : ℕ) → IsDrawnSpace (drawn_space state).0
unfolding drawn_space
drawn_space-is state =
    let place = (pick 12 (pick 101 state).1).0 in record {
      least = omega arith;
      most = omega arith;
      listed = listed_at place (omega arith);
    }

pub drawn_space-is_space : (state : ℕ) → IsSpace (drawn_space state).0
drawn_space-is_space state =
    let is = drawn_space-is state in record {
      least = omega (arith, is.least);
      most = omega (arith, is.most);
      listed = is.listed;
    }

pub four_sessions : (seed : ℕ) → HasFourSessions seed
unfolding generated
four_sessions seed =
    let space = drawn_space (first_state seed) in
    let is = drawn_space-is (first_state seed) in
    let lines = AllZip-blocks drawn_text 2 (drawing seed).sessions in
    let count : length (drawing seed).sessions ≡ 4 = length-times 4 (times 40 (drawn_command space.0.modulus)) space.1 in record {
      least = is.least;
      most = is.most;
      listed = is.listed;
      sessions = count;
      commands = All-times (λ (session : List DrawnCommand). length session ≡ 40) 4 (times 40 (drawn_command space.0.modulus)) space.1
          (λ s. length-times 40 (drawn_command space.0.modulus) s);
      blocks = sym (AllZip-long _ (generated seed).sessions (drawing seed).sessions lines) ∙ count;
      lines = lines;
    }

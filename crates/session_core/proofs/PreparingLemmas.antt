-- What prepares a command: its distinct symbols, its number, and what a line is read as.
use Rattle.std.proofs.Common.{◌≡◌, ◌<◌, ℕ, ℤ, Bool, true, false, List, [], map, All, None, Some, Result, Ok, Err, IfOk, nat_eq, if◌then◌else◌, get_or, refl, sym, ◌∙◌, ap, subst}
use Rattle.std.specs.List.{Contains, dedup}
use Rattle.std.specs.List.Sorted.{IsStrictlyIncreasing, IsPermutation, IsSorted}
use Rattle.std.specs.List.Retain.{IsFiltered, DiffersFromLast}
use Rattle.std.specs.Ordering.{nat_cmp}
use Rattle.std.proofs.lemmas.Bool.{eqb-true}
use Rattle.std.proofs.lemmas.List.{get_or_default}
use Rattle.std.proofs.lemmas.List.Filters.{dedup_is}
use Rattle.std.proofs.lemmas.List.Kept.{Contains-dedup_nat, Contains-from_dedup}
use Rattle.std.proofs.lemmas.List.Sorted.{Contains-permutation, IsPermutation-sym}
use Rattle.std.proofs.lemmas.Map.Keys.{IsStrictlyIncreasing-dedup}
use Rattle.p1_normal.specs.Units.{gcd}
use Rattle.quotient_coords.specs.Quotient.{Ground, dimension}
use Rattle.script_text.specs.declared.command.Command.{Command}
use Rattle.script_text.specs.Commands.{command_of}
use Rattle.reply_text.specs.declared.refusal.Refusal.TheVariants.{NotCoprime}
use Rattle.reply_text.specs.declared.reply.Reply.{Reply}
use Rattle.session_core.specs.Refusals.{uncoprime, refusal_of, first_of, unnamed, determinant_of, mislength, coordinate_count, no_part, part_number, full}
use Rattle.session_core.specs.Terms.{first_unnamed, terms_of}
use Rattle.session_core.specs.Demands.{AreDistinctOf, Preparation}
use Rattle.session_core.specs.Replies.{Prepares}
use Rattle.session_core.proofs.DemandLemmas.{Contains-from_map}

-- sorted without neighbours that are the same, numbers are those that are given, each once
pub distinct_of : (given sorted symbols : List ℕ) → IsPermutation given sorted → IsSorted nat_cmp sorted
    → IsFiltered (DiffersFromLast nat_eq) [] sorted symbols → AreDistinctOf given symbols
distinct_of given sorted symbols moved rises filtered =
    let is : symbols ≡ dedup nat_eq sorted = dedup_is nat_eq sorted symbols filtered in
    record {
      rising = subst IsStrictlyIncreasing (sym is) (IsStrictlyIncreasing-dedup sorted rises);
      all = λ k h. subst (λ ks. Contains ks k) (sym is) (Contains-dedup_nat sorted k (Contains-permutation given sorted k moved h));
      only = λ k h. Contains-permutation sorted given k (IsPermutation-sym given sorted moved)
          (Contains-from_dedup nat_eq sorted k (subst (λ ks. Contains ks k) is h));
    }

-- the symbols of terms with places below m are below m
pub below_of_distinct : (m : ℕ) (numbers : List (ℕ × ℤ)) (symbols : List ℕ) → All (λ t. t.0 < m) numbers
    → AreDistinctOf (map (λ (t : ℕ × ℤ). t.0) numbers) symbols → All (λ k. k < m) symbols
below_of_distinct m numbers symbols below distinct = λ i d within.
    let at = Contains-from_map (λ (t : ℕ × ℤ). t.0) numbers (get_or symbols i d)
    (distinct.only (get_or symbols i d) (i, within, get_or_default symbols i (get_or symbols i d) d within)) in
    let place : (get_or numbers at.1.0 at.0).0 < m = below at.1.0 at.0 at.1.1 in
    subst (λ k. k < m) at.2 (subst (λ (t : ℕ × ℤ). t.0 < m) at.1.2 place)

-- a number that is not refused is coprime to the level
pub coprime_of : (N n : ℕ) → uncoprime N (Some n) ≡ None → gcd n N ≡ 1
coprime_of N n h = by (nat_eq (gcd n N) 1) (eqb-true (gcd n N) 1) h
  where
    by : (b : Bool) → (b ≡ true → gcd n N ≡ 1) → (if b then None else Some (NotCoprime (gcd n N))) ≡ None → gcd n N ≡ 1
    by true f h = f refl
    by false f h = absurd cc

-- what is said of a command that was prepared from a line
pub prepares_of : (g : Ground) (v count : ℕ) (text : List ℕ) (command : Command) (result : Result Preparation Reply)
    → command_of text ≡ Ok command
    → IfOk result (λ p. p.ground ≡ g) → IfOk result (λ p. p.version ≡ v) → IfOk result (λ p. p.parts ≡ count)
    → IfOk result (λ p. p.command ≡ command) → IfOk result (λ _. refusal_of g v count command ≡ None)
    → IfOk result (Prepares g v count text)
prepares_of g v count text command (Ok p) read at version parts is none = record {
  at_ground = at;
  at_version = version;
  with_parts = parts;
  command_is = subst (λ c. command_of text ≡ Ok c) (sym is) read;
  unrefused = subst (λ c. refusal_of g v count c ≡ None) (sym is) none;
}
prepares_of g v count text command (Err reply) read at version parts is none = tt

-- a command that none of the refusals refuses
pub unrefused_of : (g : Ground) (v count : ℕ) (command : Command) → first_unnamed g.level (terms_of command) ≡ None
    → uncoprime g.level (determinant_of command) ≡ None → mislength (dimension g.level g.characteristic) (coordinate_count command) ≡ None
    → no_part count (part_number command) ≡ None → full v command ≡ None → refusal_of g v count command ≡ None
unrefused_of g v count command named coprime sized there room =
    ap (λ o. first_of (unnamed o) (first_of (uncoprime g.level (determinant_of command))
    (first_of (mislength (dimension g.level g.characteristic) (coordinate_count command))
    (first_of (no_part count (part_number command)) (full v command))))) named
    ∙ ap (λ o. first_of o (first_of (mislength (dimension g.level g.characteristic) (coordinate_count command))
    (first_of (no_part count (part_number command)) (full v command)))) coprime
    ∙ ap (λ o. first_of o (first_of (no_part count (part_number command)) (full v command))) sized
    ∙ ap (λ o. first_of o (full v command)) there
    ∙ room

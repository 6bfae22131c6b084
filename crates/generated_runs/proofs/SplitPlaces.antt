-- The places of the splits of a script: for each the number of its session and of its line, both from 1.
use Rattle.std.proofs.Common.{◌≡◌, inl, inr, ℕ, ℤ, zero, suc, ◌+◌, ◌≤◌, List, [], ◌∷◌, ◌++◌, length, length-append, map, Some, Result, Ok, Err, slice_get, refl, sym, ◌∙◌, ap, subst, arith}
use Rattle.std.specs.List.{IsDistinct}
use Rattle.std.specs.Set.{is_member}
use Rattle.std.proofs.lemmas.Bool.{or_cases}
use Rattle.std.proofs.lemmas.List.{length-map}
use Rattle.std.proofs.lemmas.List.Sums.{sum_by-cons}
use Rattle.std.proofs.lemmas.Option.{same_Some}
use Rattle.op_polynomials.specs.declared.name.OpName.{OpName}
use Rattle.script_text.specs.declared.command.Command.{Command}
use Rattle.script_text.specs.declared.command.Command.TheVariants as commands
use Rattle.script_text.specs.declared.command_fault.CommandFault.{CommandFault}
use Rattle.script_text.specs.Commands.{command_of}
use Rattle.script_text.specs.Numbered.{NumberedLine}
use Rattle.script_text.specs.Valid.{command_count}
use Rattle.session_core.specs.Demands.{is_pair, Has}
use Rattle.session_core.proofs.PairLemmas.{Has-append_left, Has-append_right, Has-from_append, Has-it, Has-nil, is_pair-eq}
use Rattle.generated_runs.specs.Splits.{line_operators, read_operators, script_operators, session_operators, split_count, split_operator}
use Rattle.generated_runs.proofs.Places.{distinct_append, distinct_nil, distinct_one}

-- the same place for each of the operators
abbrev place_for : ℕ → ℕ → OpName → ℕ × ℕ
place_for s n op = (s, n)

abbrev places_of : ℕ → ℕ → List OpName → List (ℕ × ℕ)
places_of s n ops = map (place_for s n) ops

-- the places of the splits among the lines of session s, which are numbered from n on
abbrev pub line_places : ℕ → ℕ → List NumberedLine → List (ℕ × ℕ)
line_places s n [] = []
line_places s n (line ∷ lines) = places_of s n (line_operators split_operator line) ++ line_places s (n + 1) lines

-- and among those of the sessions numbered from s on
abbrev pub places : ℕ → List (List NumberedLine) → List (ℕ × ℕ)
places s [] = []
places s (lines ∷ sessions) = line_places s 1 lines ++ places (s + 1) sessions

-- they are as many as the splits
length-line_places : (s n : ℕ) (lines : List NumberedLine) → length (line_places s n lines) ≡ length (session_operators split_operator lines)
length-line_places s n [] = refl
length-line_places s n (line ∷ lines) =
    let ops = line_operators split_operator line in
    let both : length (places_of s n ops) + length (line_places s (n + 1) lines) ≡ length ops + length (session_operators split_operator lines) =
    omega (arith, length-map ops (place_for s n), length-line_places s (n + 1) lines) in
    length-append (places_of s n ops) (line_places s (n + 1) lines) ∙ both ∙ sym (length-append ops (session_operators split_operator lines))

pub length-places : (s : ℕ) (sessions : List (List NumberedLine)) → length (places s sessions) ≡ split_count sessions
length-places s [] = refl
length-places s (lines ∷ sessions) =
    let both : length (line_places s 1 lines) + length (places (s + 1) sessions)
    ≡ length (session_operators split_operator lines) + length (script_operators split_operator sessions) =
    omega (arith, length-line_places s 1 lines, length-places (s + 1) sessions) in
    length-append (line_places s 1 lines) (places (s + 1) sessions) ∙ both
    ∙ sym (length-append (session_operators split_operator lines) (script_operators split_operator sessions))

-- the place of operators is one
places_same : (s n : ℕ) (ops : List OpName) (q : ℕ × ℕ) → Has (places_of s n ops) q → q ≡ (s, n)
places_same s n [] q h = absurd (Has-nil q h)
places_same s n (op ∷ ops) q h = elim (or_cases (is_pair q (s, n)) (is_member is_pair (places_of s n ops) q) h) [
  | inl here ↦ is_pair-eq q (s, n) here
  | inr later ↦ places_same s n ops q later
]

-- the split at a place among the lines of session s, which are numbered from n on
pub record SplitAt (s n : ℕ) (lines : List NumberedLine) (q : ℕ × ℕ) : Type 0 where
  pub place : ℕ
  pub line : NumberedLine
  pub command : slice_get lines place ≡ Some line
  pub op : OpName
  pub coefficients : List ℤ
  pub split : command_of line.text ≡ Ok (commands.Split op coefficients)
  pub session_is : q.0 ≡ s
  pub number_is : q.1 ≡ n + place

split_here : (s n : ℕ) (line : NumberedLine) (lines : List NumberedLine) (q : ℕ × ℕ) (reading : Result Command CommandFault)
    → command_of line.text ≡ reading → Has (places_of s n (read_operators split_operator reading)) q → SplitAt s n (line ∷ lines) q
split_here s n line lines q (Ok (commands.Split op coefficients)) is here =
    let same : q ≡ (s, n) = places_same s n (op ∷ []) q here in
    let first : n ≡ n + 0 = omega arith in
    record {
      place = 0;
      line = line;
      command = refl;
      op = op;
      coefficients = coefficients;
      split = is;
      session_is = ap (λ (p : ℕ × ℕ). p.0) same;
      number_is = ap (λ (p : ℕ × ℕ). p.1) same ∙ first;
    }
split_here s n line lines q (Ok command) is here = absurd (Has-nil q here)
split_here s n line lines q (Err fault) is here = absurd (Has-nil q here)

split_at : (s n : ℕ) (lines : List NumberedLine) (q : ℕ × ℕ) → Has (line_places s n lines) q → SplitAt s n lines q
split_at s n [] q h = absurd (Has-nil q h)
split_at s n (line ∷ lines) q h =
    elim (Has-from_append (places_of s n (line_operators split_operator line)) (line_places s (n + 1) lines) q h) [
      | inl here ↦ split_here s n line lines q (command_of line.text) refl here
      | inr later ↦ after (split_at s (n + 1) lines q later)
    ]
  where
    after : SplitAt s (n + 1) lines q → SplitAt s n (line ∷ lines) q
    after x = record {
      place = suc x.place;
      line = x.line;
      command = x.command;
      op = x.op;
      coefficients = x.coefficients;
      split = x.split;
      session_is = x.session_is;
      number_is = omega (arith, x.number_is);
    }

-- and among those of the sessions numbered from s on
pub record SplitIn (s : ℕ) (sessions : List (List NumberedLine)) (q : ℕ × ℕ) : Type 0 where
  pub session : ℕ
  pub lines : List NumberedLine
  pub lines_there : slice_get sessions session ≡ Some lines
  pub split : SplitAt (s + session) 1 lines q

pub split_in : (s : ℕ) (sessions : List (List NumberedLine)) (q : ℕ × ℕ) → Has (places s sessions) q → SplitIn s sessions q
split_in s [] q h = absurd (Has-nil q h)
split_in s (lines ∷ sessions) q h = elim (Has-from_append (line_places s 1 lines) (places (s + 1) sessions) q h) [
  | inl here ↦ first (split_at s 1 lines q here)
  | inr later ↦ after (split_in (s + 1) sessions q later)
]
  where
    same : s ≡ s + 0
    same = omega arith

    first : SplitAt s 1 lines q → SplitIn s (lines ∷ sessions) q
    first x = record { session = 0; lines = lines; lines_there = refl; split = subst (λ n. SplitAt n 1 lines q) same x }

    later : (k : ℕ) → s + 1 + k ≡ s + suc k
    later k = omega arith

    after : SplitIn (s + 1) sessions q → SplitIn s (lines ∷ sessions) q
    after x = record {
      session = suc x.session;
      lines = x.lines;
      lines_there = x.lines_there;
      split = subst (λ n. SplitAt n 1 x.lines q) (later x.session) x.split;
    }

-- each split has its place there
has_line_place : (s n c : ℕ) (lines : List NumberedLine) (line : NumberedLine) (op : OpName) (coefficients : List ℤ)
    → slice_get lines c ≡ Some line → command_of line.text ≡ Ok (commands.Split op coefficients) → Has (line_places s n lines) (s, n + c)
has_line_place s n c [] line op coefficients at split = absurd cc
has_line_place s n zero (first ∷ lines) line op coefficients at split =
    let same : n ≡ n + 0 = omega arith in
    let reads : command_of first.text ≡ Ok (commands.Split op coefficients) =
    ap (λ (l : NumberedLine). command_of l.text) (same_Some first line at) ∙ split in
    Has-append_left (places_of s n (line_operators split_operator first)) (line_places s (n + 1) lines) (s, n + 0)
    (subst (λ reading. Has (places_of s n (read_operators split_operator reading)) (s, n + 0)) (sym reads)
    (subst (λ k. Has ((s, n) ∷ []) (s, k)) same (Has-it (s, n))))
has_line_place s n (suc c) (first ∷ lines) line op coefficients at split =
    let next : n + 1 + c ≡ n + suc c = omega arith in
    Has-append_right (places_of s n (line_operators split_operator first)) (line_places s (n + 1) lines) (s, n + suc c)
    (subst (λ k. Has (line_places s (n + 1) lines) (s, k)) next (has_line_place s (n + 1) c lines line op coefficients at split))

pub has_place : (s k c : ℕ) (sessions : List (List NumberedLine)) (lines : List NumberedLine) (line : NumberedLine) (op : OpName)
    (coefficients : List ℤ) → slice_get sessions k ≡ Some lines → slice_get lines c ≡ Some line
    → command_of line.text ≡ Ok (commands.Split op coefficients) → Has (places s sessions) (s + k, 1 + c)
has_place s k c [] lines line op coefficients there at split = absurd cc
has_place s zero c (first ∷ sessions) lines line op coefficients there at split =
    let same : s ≡ s + 0 = omega arith in
    let here : slice_get first c ≡ Some line = ap (λ (ls : List NumberedLine). slice_get ls c) (same_Some first lines there) ∙ at in
    Has-append_left (line_places s 1 first) (places (s + 1) sessions) (s + 0, 1 + c)
    (subst (λ n. Has (line_places s 1 first) (n, 1 + c)) same (has_line_place s 1 c first line op coefficients here split))
has_place s (suc k) c (first ∷ sessions) lines line op coefficients there at split =
    let next : s + 1 + k ≡ s + suc k = omega arith in
    Has-append_right (line_places s 1 first) (places (s + 1) sessions) (s + suc k, 1 + c)
    (subst (λ n. Has (places (s + 1) sessions) (n, 1 + c)) next (has_place (s + 1) k c sessions lines line op coefficients there at split))

-- the places are distinct
distinct_here : (s n : ℕ) (reading : Result Command CommandFault) → IsDistinct is_pair (places_of s n (read_operators split_operator reading))
distinct_here s n (Ok (commands.Split op coefficients)) = distinct_one (s, n)
distinct_here s n (Ok command) = distinct_nil
distinct_here s n (Err fault) = distinct_nil

distinct_lines : (s n : ℕ) (lines : List NumberedLine) → IsDistinct is_pair (line_places s n lines)
distinct_lines s n [] = distinct_nil
distinct_lines s n (line ∷ lines) =
    let ops = line_operators split_operator line in
    distinct_append (places_of s n ops) (line_places s (n + 1) lines) (distinct_here s n (command_of line.text)) (distinct_lines s (n + 1) lines)
    (λ q here later. apart q (places_same s n ops q here) (split_at s (n + 1) lines q later))
  where
    apart : (q : ℕ × ℕ) → q ≡ (s, n) → SplitAt s (n + 1) lines q → ⊥
    apart q same x = let first : q.1 ≡ n = ap (λ (p : ℕ × ℕ). p.1) same in omega (arith, first, x.number_is)

pub distinct_places : (s : ℕ) (sessions : List (List NumberedLine)) → IsDistinct is_pair (places s sessions)
distinct_places s [] = distinct_nil
distinct_places s (lines ∷ sessions) =
    distinct_append (line_places s 1 lines) (places (s + 1) sessions) (distinct_lines s 1 lines) (distinct_places (s + 1) sessions)
    (λ q here later. apart q (split_at s 1 lines q here) (split_in (s + 1) sessions q later))
  where
    apart : (q : ℕ × ℕ) → SplitAt s 1 lines q → SplitIn (s + 1) sessions q → ⊥
    apart q x y = omega (arith, x.session_is, y.split.session_is)

-- there are no more splits than commands
one_at_most : (reading : Result Command CommandFault) → length (read_operators split_operator reading) ≤ 1
one_at_most (Ok (commands.Split op coefficients)) = omega arith
one_at_most (Ok command) = omega arith
one_at_most (Err fault) = omega arith

lines_at_most : (lines : List NumberedLine) → length (session_operators split_operator lines) ≤ length lines
lines_at_most [] = omega arith
lines_at_most (line ∷ lines) =
    let ops = line_operators split_operator line in
    omega (arith, length-append ops (session_operators split_operator lines), one_at_most (command_of line.text), lines_at_most lines)

pub splits_at_most : (sessions : List (List NumberedLine)) → split_count sessions ≤ command_count sessions
splits_at_most [] = omega arith
splits_at_most (lines ∷ sessions) = omega (
  arith,
  length-append (session_operators split_operator lines) (script_operators split_operator sessions),
  sum_by-cons (λ (session : List NumberedLine). length session) lines sessions,
  lines_at_most lines,
  splits_at_most sessions,
)

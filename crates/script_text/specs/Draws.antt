-- Scripts made from a number: draws of the minimal standard generator of Park and Miller, and what they choose.
--   Choice A              what draws choose: from the state before them to what is chosen and the state after them
--   chosen x              x, without a draw
--   and_then c f          the choice c, and then that of f at what c chose
--   times k c             so many choices c, one after another
--   first_state seed      the state before the first draw
--   pick b                one draw, x to 16807 x modulo 2147483647: the state after it modulo b
--   term N                a term at level N: its coefficient is 1 to 9, and it names the symbol (1:v)
--   terms N               two of them
--   index_from N k        the least number from k on that is coprime to N
--   index N               the n of T_n at level N: such a number from one of 1 to 20 on
--   operator N            star in one case of four, else T_n
--   command_of_kind N k   a command of the kind numbered k, from 0 to 7
--   drawn_command N       a command at level N
--   drawn_space           a level of 100 to 200, and one of the twelve characteristics
--   Drawing               a level, a characteristic, and the commands of each session
--   chosen_drawing        a level, a characteristic, and four sessions of forty commands
--   drawing seed          those that the draws from the seed on choose
--   term_text t           the text of a term
--   operator_text o       the name of an operator
--   drawn_text d          the line of a command
--   numbered_from n ts    the lines ts with the numbers from n on
--   blocks_from n ss      the sessions ss, where the first has its session line at n, and the next after its commands
--   script_of_drawing d   its script, where the header is line 1, and no line is skipped
--   generated seed        the script of the seed
--   HasFourSessions seed  its level is 100 to 200, its characteristic is listed, and there are four sessions of forty
--                         commands, each on a line
use Rattle.std.specs.Prelude.{◌≡◌, ℕ, zero, suc, ◌≤◌, ◌+◌, ◌*◌, ◌%◌, List, [], ◌∷◌, ◌++◌, map, length, filter, get_or, nat_eq, codes, decimal, Some, None, ◌==◌, if◌then◌else◌}
use Rattle.std.specs.List.{All, AllZip, enumerate_from, range_with_len}
use Rattle.field_table.specs.declared.table.TheConstants.{CHARACTERISTICS}
use Rattle.field_table.specs.Table.{IsListed}
use Rattle.p1_normal.specs.Units.{gcd}
use Rattle.op_polynomials.specs.declared.name.OpName.{OpName}
use Rattle.op_polynomials.specs.declared.name.OpName.TheVariants as ops
use Rattle.script_text.specs.declared.drawn.DrawnCommand.{DrawnCommand}
use Rattle.script_text.specs.declared.drawn.DrawnCommand.TheVariants as drawn
use Rattle.script_text.specs.declared.drawn.DrawnTerm.{DrawnTerm}
use Rattle.script_text.specs.declared.space.SpaceLine.{SpaceLine}
use Rattle.script_text.specs.Numbered.{NumberedLine}
use Rattle.script_text.specs.Valid.{ScriptText}

abbrev pub Choice : Type 0 → Type 0
Choice A = ℕ → A × ℕ

abbrev pub chosen : {A : Type 0} → A → Choice A
chosen x state = (x, state)

abbrev pub and_then : {A B : Type 0} → Choice A → (A → Choice B) → Choice B
and_then first next state = next (first state).0 (first state).1

unfoldable pub times : {A : Type 0} → ℕ → Choice A → Choice (List A)
times zero choice = chosen []
times (suc k) choice = and_then choice (λ x. and_then (times k choice) (λ xs. chosen (x ∷ xs)))

abbrev pub first_state : ℕ → ℕ
first_state seed = 1 + seed % 2147483646

abbrev pub pick : ℕ → Choice ℕ
pick bound state = ((16807 * state % 2147483647) % bound, 16807 * state % 2147483647)

abbrev pub term : ℕ → Choice DrawnTerm
term N = and_then (pick 9) (λ c. and_then (pick N) (λ v. chosen (record { coefficient = 1 + c; v = v })))

abbrev pub terms : ℕ → Choice (DrawnTerm × DrawnTerm)
terms N = and_then (term N) (λ first. and_then (term N) (λ second. chosen (first, second)))

abbrev pub index_from : ℕ → ℕ → ℕ
index_from N k = get_or (filter (λ n. nat_eq (gcd n N) 1) (range_with_len k (N + 1))) 0 1

abbrev pub index : ℕ → Choice ℕ
index N = and_then (pick 20) (λ k. chosen (index_from N (1 + k)))

abbrev pub operator : ℕ → Choice OpName
operator N = and_then (pick 4) (λ case. if case == 0 then chosen ops.Star else and_then (index N) (λ n. chosen (ops.T n)))

abbrev pub command_of_kind : ℕ → ℕ → Choice DrawnCommand
command_of_kind N kind =
    if kind == 0 then and_then (pick N) (λ v. chosen (drawn.Normal v))
    else if kind == 1 then and_then (terms N) (λ ts. chosen (drawn.Reduce ts.0 ts.1))
    else if kind == 2 then and_then (index N) (λ n. and_then (terms N) (λ ts. chosen (drawn.Image n ts.0 (Some ts.1))))
    else if kind == 3 then and_then (index N) (λ n. and_then (term N) (λ t. chosen (drawn.Image n t None)))
    else if kind == 4 then and_then (term N) (λ t. chosen (drawn.Star t))
    else if kind == 5 then and_then (terms N) (λ ts. chosen (drawn.Boundary ts.0 ts.1))
    else if kind == 6 then chosen drawn.Show
    else and_then (operator N) (λ op. and_then (pick 10) (λ c. chosen (drawn.Split op c)))

unfoldable pub drawn_command : ℕ → Choice DrawnCommand
drawn_command N = and_then (pick 8) (command_of_kind N)

unfoldable pub drawn_space : Choice SpaceLine
drawn_space = and_then (pick 101) (λ level. and_then (pick 12) (λ place.
    chosen (record { modulus = 100 + level; characteristic = get_or CHARACTERISTICS place 0 })))

pub record Drawing : Type 0 where
  pub level : ℕ
  pub characteristic : ℕ
  pub sessions : List (List DrawnCommand)

abbrev pub chosen_drawing : Choice Drawing
chosen_drawing = and_then drawn_space (λ space. and_then (times 4 (times 40 (drawn_command space.modulus))) (λ sessions.
    chosen (record { level = space.modulus; characteristic = space.characteristic; sessions = sessions })))

abbrev pub drawing : ℕ → Drawing
drawing seed = (chosen_drawing (first_state seed)).0

abbrev pub term_text : DrawnTerm → List ℕ
term_text t = decimal t.coefficient ++ codes ":1:" ++ decimal t.v

abbrev pub operator_text : OpName → List ℕ
operator_text (ops.T n) = codes "T" ++ decimal n
operator_text ops.Star = codes "star"

abbrev pub drawn_text : DrawnCommand → List ℕ
drawn_text (drawn.Normal v) = codes "normal 1 " ++ decimal v
drawn_text (drawn.Reduce first second) = codes "reduce " ++ term_text first ++ codes " " ++ term_text second
drawn_text (drawn.Image n first None) = codes "image " ++ decimal n ++ codes " " ++ term_text first
drawn_text (drawn.Image n first (Some second)) = codes "image " ++ decimal n ++ codes " " ++ term_text first ++ codes " " ++ term_text second
drawn_text (drawn.Star t) = codes "star " ++ term_text t
drawn_text (drawn.Boundary first second) = codes "boundary " ++ term_text first ++ codes " " ++ term_text second
drawn_text drawn.Show = codes "show"
drawn_text (drawn.Split op constant) = codes "split " ++ operator_text op ++ codes " -" ++ decimal constant ++ codes ",1"

abbrev pub numbered_from : ℕ → List (List ℕ) → List NumberedLine
numbered_from n texts = map (λ (line : ℕ × List ℕ). record { line = line.0; text = line.1 }) (enumerate_from n texts)

abbrev pub blocks_from : ℕ → List (List (List ℕ)) → List (List NumberedLine)
blocks_from n [] = []
blocks_from n (texts ∷ more) = numbered_from (n + 1) texts ∷ blocks_from (n + 1 + length texts) more

abbrev pub script_of_drawing : Drawing → ScriptText
script_of_drawing d = record {
  space = record { modulus = d.level; characteristic = d.characteristic };
  sessions = blocks_from 2 (map (map drawn_text) d.sessions);
}

unfoldable pub generated : ℕ → ScriptText
generated seed = script_of_drawing (drawing seed)

pub record HasFourSessions (seed : ℕ) : Type 0 where
  pub least : 100 ≤ (drawing seed).level
  pub most : (drawing seed).level ≤ 200
  pub listed : IsListed (drawing seed).characteristic
  pub sessions : length (drawing seed).sessions ≡ 4
  pub commands : All (λ (session : List DrawnCommand). length session ≡ 40) (drawing seed).sessions
  pub blocks : length (generated seed).sessions ≡ 4
  pub lines :
      AllZip (λ (block : List NumberedLine) (session : List DrawnCommand). length block ≡ length session)
      (generated seed).sessions (drawing seed).sessions

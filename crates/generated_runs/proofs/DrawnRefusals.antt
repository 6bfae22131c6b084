-- Nothing refuses a drawn command: its terms name points, and its n is coprime to the level.
use Rattle.std.proofs.Common.{◌≡◌, ◌+◌, ◌<◌, ◌≤◌, ℕ, pos, Bool, true, not, cond, suc, List, [], ◌∷◌, length, All, Option, Some, None, Ok, position, if◌then◌else◌, refl, sym, ◌∙◌, ap, subst, arith, eq-eqb, le-ltb}
use Rattle.std.specs.List.{prefix_len}
use Rattle.std.proofs.lemmas.List.Elements.{All-cons, All-head, All-nil, All-tail}
use Rattle.p1_normal.specs.Points.{common_divisor, reduced}
use Rattle.p1_normal.specs.Units.{gcd}
use Rattle.p1_normal.proofs.LevelLaws.{common_divisor-reduced}
use Rattle.p1_normal.proofs.Units.{gcd_from_IsUnit}
use Rattle.quotient_coords.specs.Quotient.{Ground, dimension}
use Rattle.op_polynomials.specs.declared.name.OpName.TheVariants as ops
use Rattle.script_text.specs.declared.command.Command.{Command}
use Rattle.script_text.specs.declared.command.Command.TheVariants as commands
use Rattle.script_text.specs.declared.drawn.DrawnCommand.{DrawnCommand}
use Rattle.script_text.specs.declared.drawn.DrawnCommand.TheVariants as drawn
use Rattle.script_text.specs.declared.drawn.DrawnTerm.{DrawnTerm}
use Rattle.script_text.specs.declared.term.Term.{Term}
use Rattle.script_text.specs.Commands.{command_of}
use Rattle.script_text.specs.DrawnCommands.{IsDrawnAt, command_of_drawn, drawn_term}
use Rattle.script_text.specs.Draws.{drawn_text}
use Rattle.reply_text.specs.declared.limits.TheConstants.{MAX_VERSIONS}
use Rattle.reply_text.specs.declared.refusal.Refusal.{Refusal}
use Rattle.reply_text.specs.declared.refusal.Refusal.TheVariants.{NotCoprime}
use Rattle.session_core.specs.Refusals.{coordinate_count, determinant_of, first_of, full, mislength, no_part, part_number, reading_refusal, refusal_of, uncoprime, unnamed}
use Rattle.session_core.specs.Terms.{first_unnamed, names_point, pair, terms_of}
use Rattle.session_core.proofs.LegalRuns.{full_none}
use Rattle.generated_runs.specs.Unrefused.{IsUnrefused}

-- 1 is coprime to each number
gcd-one : (N : ℕ) → gcd 1 N ≡ 1
gcd-one N = gcd_from_IsUnit N 1 (record { inverse = 1; gives_one = refl })

-- so the pair of 1 and any number names a point
names : (N v c : ℕ) → 0 < N → names_point N (record { coefficient = pos c; u = pos 1; v = pos v }) ≡ true
names N v c positive = eq-eqb (common_divisor N (reduced N (pos 1) (pos v))) 1
    (common_divisor-reduced N (pos 1) (pos v) positive ∙ ap (λ n. gcd n N) (gcd-one v) ∙ gcd-one N)

-- where each passes the test, none is the first that does not
prefix_all : (test : Term → Bool) (terms : List Term) → All (λ t. test t ≡ true) terms → prefix_len (λ t. not (not (test t))) terms ≡ length terms
prefix_all test [] h = refl
prefix_all test (t ∷ terms) h =
    let more : 1 + prefix_len (λ x. not (not (test x))) terms ≡ suc (length terms) =
    omega (arith, prefix_all test terms (All-tail (λ x. test x ≡ true) t terms h)) in
    ap (λ b. cond (not (not b)) (1 + prefix_len (λ x. not (not (test x))) terms) 0) (All-head (λ x. test x ≡ true) t terms h) ∙ more

none_fails : (test : Term → Bool) (terms : List Term) → All (λ t. test t ≡ true) terms → position (λ t. not (test t)) terms ≡ None
none_fails test terms h =
    let past : length terms ≤ prefix_len (λ t. not (not (test t))) terms = omega (arith, prefix_all test terms h) in
    ap {B = Option ℕ} (λ b. cond b (Some (prefix_len (λ t. not (not (test t))) terms)) None)
    (le-ltb (prefix_len (λ t. not (not (test t))) terms) (length terms) past)

-- no refusal where there is none of the first two kinds, of the length or of the part, and none of a full history
no_refusal : (a b c d e : Option Refusal) → a ≡ None → b ≡ None → c ≡ None → d ≡ None → e ≡ None
    → first_of a (first_of b (first_of c (first_of d e))) ≡ None
no_refusal a b c d e an bn cn dn en =
    ap (λ o. first_of o (first_of b (first_of c (first_of d e)))) an ∙ ap (λ o. first_of o (first_of c (first_of d e))) bn
    ∙ ap (λ o. first_of o (first_of d e)) cn ∙ ap (λ o. first_of o e) dn ∙ en

-- a command is refused by none where its terms name points and its n is coprime, and it gives no coordinates and asks for no part
unrefused_command : (g : Ground) (command : Command) → All (λ t. names_point g.level t ≡ true) (terms_of command)
    → uncoprime g.level (determinant_of command) ≡ None → coordinate_count command ≡ None → part_number command ≡ None
    → (v count : ℕ) → v < MAX_VERSIONS → refusal_of g v count command ≡ None
unrefused_command g command named coprime no_coordinates no_number v count few =
    no_refusal (unnamed (first_unnamed g.level (terms_of command))) (uncoprime g.level (determinant_of command))
    (mislength (dimension g.level g.characteristic) (coordinate_count command)) (no_part count (part_number command)) (full v command)
    (ap unnamed (none_fails (names_point g.level) (terms_of command) named)) coprime
    (ap (mislength (dimension g.level g.characteristic)) no_coordinates) (ap (no_part count) no_number) (full_none v few command)

-- a number that is coprime is not refused
coprime_none : (N n : ℕ) → gcd n N ≡ 1 → uncoprime N (Some n) ≡ None
coprime_none N n e = ap {B = Option Refusal} (λ (b : Bool). if b then None else Some (NotCoprime (gcd n N))) (eq-eqb (gcd n N) 1 e)

-- the terms of a drawn command name points
one_named : (N : ℕ) (t : DrawnTerm) → 0 < N → All (λ x. names_point N x ≡ true) (drawn_term t ∷ [])
one_named N t positive =
    All-cons (λ x. names_point N x ≡ true) (drawn_term t) [] (names N t.v t.coefficient positive) (All-nil (λ x. names_point N x ≡ true))

two_named : (N : ℕ) (a b : DrawnTerm) → 0 < N → All (λ x. names_point N x ≡ true) (drawn_term a ∷ drawn_term b ∷ [])
two_named N a b positive =
    All-cons (λ x. names_point N x ≡ true) (drawn_term a) (drawn_term b ∷ []) (names N a.v a.coefficient positive) (one_named N b positive)

-- so nothing refuses a drawn command
unrefused_drawn : (g : Ground) (d : DrawnCommand) → 0 < g.level → IsDrawnAt g.level d → (v count : ℕ) → v < MAX_VERSIONS
    → refusal_of g v count (command_of_drawn d) ≡ None
unrefused_drawn g (drawn.Normal w) positive h =
    unrefused_command g (commands.Normal (pos 1) (pos w))
    (All-cons (λ x. names_point g.level x ≡ true) (pair (pos 1) (pos w)) [] (names g.level w 1 positive)
    (All-nil (λ x. names_point g.level x ≡ true)))
    refl refl refl
unrefused_drawn g (drawn.Reduce a b) positive h =
    unrefused_command g (commands.Reduce (drawn_term a ∷ drawn_term b ∷ [])) (two_named g.level a b positive) refl refl refl
unrefused_drawn g (drawn.Image n a None) positive h =
    unrefused_command g (commands.Image n (drawn_term a ∷ [])) (one_named g.level a positive) (coprime_none g.level n h.0.coprime) refl refl
unrefused_drawn g (drawn.Image n a (Some b)) positive h =
    unrefused_command g (commands.Image n (drawn_term a ∷ drawn_term b ∷ [])) (two_named g.level a b positive)
    (coprime_none g.level n h.0.coprime) refl refl
unrefused_drawn g (drawn.Star t) positive h =
    unrefused_command g (commands.Star (drawn_term t ∷ [])) (one_named g.level t positive) refl refl refl
unrefused_drawn g (drawn.Boundary a b) positive h =
    unrefused_command g (commands.Boundary (drawn_term a ∷ drawn_term b ∷ [])) (two_named g.level a b positive) refl refl refl
unrefused_drawn g drawn.Show positive h = unrefused_command g commands.Show (All-nil (λ x. names_point g.level x ≡ true)) refl refl refl
unrefused_drawn g (drawn.Split (ops.T n) constant) positive h =
    unrefused_command g (command_of_drawn (drawn.Split (ops.T n) constant)) (All-nil (λ x. names_point g.level x ≡ true))
    (coprime_none g.level n h.0.coprime) refl refl
unrefused_drawn g (drawn.Split ops.Star constant) positive h =
    unrefused_command g (command_of_drawn (drawn.Split ops.Star constant)) (All-nil (λ x. names_point g.level x ≡ true)) refl refl refl

-- nor its line
pub unrefused_line : (g : Ground) (d : DrawnCommand) → 0 < g.level → IsDrawnAt g.level d → command_of (drawn_text d) ≡ Ok (command_of_drawn d)
    → IsUnrefused g (drawn_text d)
unrefused_line g d positive h reads v count few =
    subst (λ reading. reading_refusal g v count reading ≡ None) (sym reads) (unrefused_drawn g d positive h v count few)

-- The lines of a drawing: their bytes are printable, none is skipped, and those of commands begin no session.
use Rattle.std.proofs.Common.{◌≡◌, ◌+◌, ◌<◌, ◌≤◌, ◌^◌, ℕ, true, false, List, [], ◌∷◌, ◌++◌, length, decimal, nat_lt, refl, sym}
use Rattle.std.proofs.Common.{◌∙◌, ap, arith}
use Rattle.std.specs.Prelude.{codes, Some, None}
use Rattle.std.specs.List.{list_all}
use Rattle.std.proofs.lemmas.Bool.{and_from, and_parts}
use Rattle.std.proofs.lemmas.Bool.Decides.{nat_tests}
use Rattle.std.proofs.lemmas.List.Folds.{list_all-append}
use Rattle.text_lines.specs.Lines.{tokens}
use Rattle.text_lines.specs.Numbers.{is_digit, is_natural}
use Rattle.text_lines.proofs.NumberLemmas.{capped_natural-small}
use Rattle.text_lines.proofs.NumeralLemmas.{is_natural-decimal, natural_of-decimal}
use Rattle.p1_normal.specs.declared.matrix.TheConstants.{MAX_DET}
use Rattle.op_polynomials.specs.declared.name.OpName.{OpName}
use Rattle.op_polynomials.specs.declared.name.OpName.TheVariants as ops
use Rattle.script_text.specs.declared.drawn.DrawnCommand.{DrawnCommand}
use Rattle.script_text.specs.declared.drawn.DrawnCommand.TheVariants as drawn
use Rattle.script_text.specs.declared.drawn.DrawnTerm.{DrawnTerm}
use Rattle.script_text.specs.declared.limits.TheConstants.{MAX_MAGNITUDE}
use Rattle.script_text.specs.declared.word.Word.{Word}
use Rattle.script_text.specs.declared.word.Word.TheVariants as words
use Rattle.script_text.specs.Draws.{term_text, operator_text, drawn_text}
use Rattle.script_text.specs.DrawnCommands.{command_of_drawn, IsDrawnTerm, IsDrawnOperator, IsDrawnAt}
use Rattle.script_text.specs.Rows.{row}
use Rattle.script_text.specs.Scripts.{is_plain, is_skipped_text, begins_session}
use Rattle.script_text.proofs.DrawnLines.{lines-read}
use Rattle.script_text.proofs.DrawnTexts.{IsNumeral}
use Rattle.legal_runs.proofs.ReadCommands.{CommandRead, command_read}

abbrev pub IsPlain : List ℕ → Type 0
IsPlain text = list_all is_plain text ≡ true

-- ---- printable bytes

pub joined_plain : (xs ys : List ℕ) → IsPlain xs → IsPlain ys → IsPlain (xs ++ ys)
joined_plain xs ys h k = list_all-append is_plain xs ys ∙ and_from (list_all is_plain xs) (list_all is_plain ys) h k

digit_plain : (d : ℕ) → is_digit d ≡ true → is_plain d ≡ true
digit_plain d digit = grind (arith, nat_tests)

digits_plain : (ds : List ℕ) → list_all is_digit ds ≡ true → IsPlain ds
digits_plain [] h = refl
digits_plain (d ∷ ds) h =
    let both = and_parts (is_digit d) (list_all is_digit ds) h in
    and_from (is_plain d) (list_all is_plain ds) (digit_plain d both.0) (digits_plain ds both.1)

natural_plain : (ds : List ℕ) → is_natural ds ≡ true → IsPlain ds
natural_plain [] h = refl
natural_plain (d ∷ ds) h = digits_plain (d ∷ ds) h

pub decimal_plain : (n : ℕ) → n < 2 ^ 64 → IsPlain (decimal n)
decimal_plain n l = natural_plain (decimal n) (is_natural-decimal n l)

term_plain : (N : ℕ) (t : DrawnTerm) → N ≤ 1000 → IsDrawnTerm N t → IsPlain (term_text t)
term_plain N t few is =
    joined_plain (decimal t.coefficient ++ codes ":1:") (decimal t.v)
    (joined_plain (decimal t.coefficient) (codes ":1:") (decimal_plain t.coefficient (omega (arith, is.most))) refl)
    (decimal_plain t.v (omega (arith, is.below)))

terms_plain : (N : ℕ) (word : List ℕ) (t u : DrawnTerm) → N ≤ 1000 → IsPlain word → IsDrawnTerm N t → IsDrawnTerm N u
    → IsPlain (word ++ term_text t ++ codes " " ++ term_text u)
terms_plain N word t u few h a b =
    joined_plain (word ++ term_text t ++ codes " ") (term_text u)
    (joined_plain (word ++ term_text t) (codes " ") (joined_plain word (term_text t) h (term_plain N t few a)) refl) (term_plain N u few b)

operator_plain : (N : ℕ) (op : OpName) → IsDrawnOperator N op → IsPlain (operator_text op)
operator_plain N (ops.T n) is = joined_plain (codes "T") (decimal n) refl (decimal_plain n (omega (arith, is.most)))
operator_plain N ops.Star is = refl

index_plain : (n : ℕ) → n ≤ MAX_DET → IsPlain (codes "image " ++ decimal n ++ codes " ")
index_plain n few =
    joined_plain (codes "image " ++ decimal n) (codes " ")
    (joined_plain (codes "image ") (decimal n) refl (decimal_plain n (omega (arith, few)))) refl

drawn_plain : (N : ℕ) (d : DrawnCommand) → N ≤ 1000 → IsDrawnAt N d → IsPlain (drawn_text d)
drawn_plain N (drawn.Normal v) few is = joined_plain (codes "normal 1 ") (decimal v) refl (decimal_plain v (omega (arith, is)))
drawn_plain N (drawn.Reduce t u) few is = terms_plain N (codes "reduce ") t u few refl is.0 is.1
drawn_plain N (drawn.Image n t None) few is =
    joined_plain (codes "image " ++ decimal n ++ codes " ") (term_text t) (index_plain n is.0.most) (term_plain N t few is.1)
drawn_plain N (drawn.Image n t (Some u)) few is =
    terms_plain N (codes "image " ++ decimal n ++ codes " ") t u few (index_plain n is.0.most) is.1 is.2
drawn_plain N (drawn.Star t) few is = joined_plain (codes "star ") (term_text t) refl (term_plain N t few is)
drawn_plain N (drawn.Boundary t u) few is = terms_plain N (codes "boundary ") t u few refl is.0 is.1
drawn_plain N drawn.Show few is = refl
drawn_plain N (drawn.Split op c) few is =
    joined_plain (codes "split " ++ operator_text op ++ codes " -" ++ decimal c) (codes ",1")
    (joined_plain (codes "split " ++ operator_text op ++ codes " -") (decimal c)
    (joined_plain (codes "split " ++ operator_text op) (codes " -")
    (joined_plain (codes "split ") (operator_text op) refl (operator_plain N op is.0)) refl)
    (decimal_plain c (omega (arith, is.1)))) refl

-- ---- lines

-- a line of a script: its bytes are printable, it is not skipped, and where it begins a session, nothing else stands on it
pub record IsScriptLine (text : List ℕ) : Type 0 where
  pub plain : IsPlain text
  pub shown : is_skipped_text (tokens text) ≡ false
  pub alone : begins_session (tokens text) ≡ true → nat_lt 1 (length (tokens text)) ≡ false

-- a line of a command is one, and begins no session
pub record IsCommandLine (text : List ℕ) : Type 0 where
  pub line : IsScriptLine text
  pub command : begins_session (tokens text) ≡ false

pub session_line : IsScriptLine (codes "session")
session_line = record { plain = refl; shown = refl; alone = λ e. refl }

-- the words of commands begin no comment and no session
begins_command : (word : Word) (others : List (List ℕ))
    → (is_skipped_text ((row word).word ∷ others) ≡ false) × (begins_session ((row word).word ∷ others) ≡ false)
begins_command words.Normal others = (refl, refl)
begins_command words.Basis others = (refl, refl)
begins_command words.Reduce others = (refl, refl)
begins_command words.Certify others = (refl, refl)
begins_command words.Image others = (refl, refl)
begins_command words.Star others = (refl, refl)
begins_command words.Boundary others = (refl, refl)
begins_command words.Cusps others = (refl, refl)
begins_command words.Operator others = (refl, refl)
begins_command words.Apply others = (refl, refl)
begins_command words.Poly others = (refl, refl)
begins_command words.Split others = (refl, refl)
begins_command words.Show others = (refl, refl)
begins_command words.Part others = (refl, refl)
begins_command words.Chains others = (refl, refl)

-- the line of a drawn command
pub drawn_line : (N : ℕ) (d : DrawnCommand) → N ≤ 1000 → IsDrawnAt N d → IsCommandLine (drawn_text d)
drawn_line N d few is =
    let r : CommandRead (drawn_text d) (command_of_drawn d) = command_read (drawn_text d) (command_of_drawn d) (lines-read N d few is) in
    let are : tokens (drawn_text d) ≡ (row r.word).word ∷ r.others = r.line ∙ ap (λ (w : List ℕ). w ∷ r.others) r.named in
    let begins = begins_command r.word r.others in
    let command : begins_session (tokens (drawn_text d)) ≡ false = ap begins_session are ∙ begins.1 in
    record {
      line = record {
        plain = drawn_plain N d few is;
        shown = ap is_skipped_text are ∙ begins.0;
        alone = λ session. absurd (let clash : false ≡ true = sym command ∙ session in cc);
      };
      command = command;
    }

-- a number that is not past prints as its numeral
pub numeral : (n : ℕ) → n ≤ MAX_MAGNITUDE → IsNumeral n (decimal n)
numeral n few =
    let read = natural_of-decimal n (omega (arith, few)) in
    record {
      are = is_natural-decimal n (omega (arith, few));
      value = capped_natural-small (MAX_MAGNITUDE + 1) (decimal n) (omega (arith, read, few)) ∙ read;
    }

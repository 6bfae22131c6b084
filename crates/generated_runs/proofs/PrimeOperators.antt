-- The operators of a script that fits are prime to the level: what the commands' refusals leave is coprime to it. So they keep
-- congruence, and their matrices commute.
use Rattle.std.proofs.Common.{◌≡◌, ◌<◌, ℕ, Bool, true, false, cond, List, [], ◌∷◌, ◌==◌, if◌then◌else◌, All, nat_eq, Option, Some, None, Result, Ok, Err, refl, sym, subst, arith, eqb-true}
use Rattle.std.specs.List.{Contains, flat_map}
use Rattle.std.proofs.lemmas.List.Elements.{All-nil, All-cons, All-head, All-tail, All-append, All-contains}
use Rattle.field_table.specs.Table.{IsListed}
use Rattle.field_table.proofs.TableFacts.{listed_prime}
use Rattle.linear_algebra.specs.Prime.{IsPrime}
use Rattle.p1_normal.specs.Units.{gcd}
use Rattle.quotient_coords.specs.Quotient.{Ground, dimension}
use Rattle.op_polynomials.specs.declared.name.OpName.{OpName}
use Rattle.op_polynomials.specs.declared.name.OpName.TheVariants as ops
use Rattle.script_text.specs.declared.command.Command.{Command}
use Rattle.script_text.specs.declared.command_fault.CommandFault.{CommandFault}
use Rattle.script_text.specs.declared.command_fault.CommandFault.TheVariants as faults
use Rattle.script_text.specs.declared.command_fault.LimitWord.{LimitWord}
use Rattle.script_text.specs.declared.kind.Kind.{Kind}
use Rattle.script_text.specs.declared.kind.Kind.TheVariants as kinds
use Rattle.script_text.specs.declared.word.Word.{Word}
use Rattle.script_text.specs.declared.word.Word.TheVariants as words
use Rattle.script_text.specs.Commands.{command, command_by_form, command_of, unless_limit}
use Rattle.script_text.specs.Grammar.{add_kind, form_of, given_by, gives}
use Rattle.script_text.specs.Limits.{limit_of}
use Rattle.script_text.specs.Rows.{row}
use Rattle.script_text.specs.Tokens.{Given, nothing, natural, add_operator}
use Rattle.text_lines.specs.Lines.{tokens}
use Rattle.script_text.specs.Numbered.{NumberedLine}
use Rattle.script_text.specs.Valid.{ScriptText}
use Rattle.reply_text.specs.declared.limits.TheConstants.{MAX_VERSIONS}
use Rattle.reply_text.specs.declared.refusal.Refusal.{Refusal}
use Rattle.reply_text.specs.declared.refusal.Refusal.TheVariants.{NotCoprime}
use Rattle.session_core.specs.Refusals.{unnamed, determinant_of, index_of, uncoprime, coordinate_count, mislength, part_number, no_part, full, first_of, refusal_of, reading_refusal}
use Rattle.session_core.specs.Terms.{terms_of, first_unnamed}
use Rattle.session_core.specs.Transcripts.{script_ground}
use Rattle.generated_runs.specs.Splits.{named_operator, split_operator, read_operators, line_operators, session_operators, named_operators, split_operators}
use Rattle.generated_runs.specs.Unrefused.{Fits, IsUnrefused}
use Rattle.split_state.specs.Versions.{HaveCommutingMatrices}
use Rattle.session_core.specs.Operators.{KeepsCongruence}
use Rattle.commuting_operators.specs.Operators.{IsPrimeTo}
use Rattle.commuting_operators.proofs.Matrices.{operator_keeps, operator_matrices}

-- ---- what is not refused is coprime
none_before : (a b : Option Refusal) → first_of a b ≡ None → b ≡ None
none_before None b e = e
none_before (Some r) b e = absurd cc

none_first : (a b : Option Refusal) → first_of a b ≡ None → a ≡ None
none_first None b e = refl
none_first (Some r) b e = absurd cc

coprime_from_none : (N n : ℕ) → uncoprime N (Some n) ≡ None → gcd n N ≡ 1
coprime_from_none N n e = eqb-true (gcd n N) 1 (passes (nat_eq (gcd n N) 1) e)
  where
    passes : (b : Bool) → cond b None (Some (NotCoprime (gcd n N))) ≡ None → b ≡ true
    passes true e = refl
    passes false e = absurd cc

coprime_command : (g : Ground) (command : Command) → ((v count : ℕ) → v < MAX_VERSIONS → refusal_of g v count command ≡ None)
    → uncoprime g.level (determinant_of command) ≡ None
coprime_command g command none =
    none_first (uncoprime g.level (determinant_of command)) (first_of (mislength (dimension g.level g.characteristic) (coordinate_count command))
    (first_of (no_part 0 (part_number command)) (full 0 command)))
    (none_before (unnamed (first_unnamed g.level (terms_of command))) (first_of (uncoprime g.level (determinant_of command))
    (first_of (mislength (dimension g.level g.characteristic) (coordinate_count command))
    (first_of (no_part 0 (part_number command)) (full 0 command))))
    (none 0 0 (omega arith)))

-- ---- what is read is within its limits: the index of an operator is the one that was given
abbrev IsOf : ℕ → OpName → Type 0
IsOf n (ops.T m) = m ≡ n
IsOf n ops.Star = Unit {0}

-- no kind is that of an index by itself
abbrev is_other : Option Kind → Bool
is_other (Some kinds.Index) = false
is_other kind = true

abbrev AreOthers : List Kind → Type 0
AreOthers [] = Unit {0}
AreOthers (kind ∷ kinds) = (is_other (Some kind) ≡ true) × AreOthers kinds

abbrev made : List ℕ → Given → Bool → Given
made token g t = if t then record g { n = natural token; op = ops.T (natural token) } else record g { op = ops.Star }

operator_is : (token : List ℕ) (g : Given) → IsOf g.n g.op → IsOf (add_operator token g).n (add_operator token g).op
operator_is [] g is = is
operator_is (b ∷ token) g is = by (b == 84)
  where
    by : (t : Bool) → IsOf (made token g t).n (made token g t).op
    by true = refl
    by false = tt

kind_is : (kind : Option Kind) (token : List ℕ) (g : Given) → is_other kind ≡ true → IsOf g.n g.op
    → IsOf (add_kind kind token g).n (add_kind kind token g).op
kind_is None token g other is = is
kind_is (Some kinds.Integer) token g other is = is
kind_is (Some kinds.Natural) token g other is = is
kind_is (Some kinds.Index) token g other is = absurd cc
kind_is (Some kinds.Operator) token g other is = operator_is token g is
kind_is (Some kinds.Coefficients) token g other is = is
kind_is (Some kinds.Term) token g other is = is

gives_is : (kinds : List Kind) (repeated : Option Kind) (tokens : List (List ℕ)) (g : Given) → AreOthers kinds → is_other repeated ≡ true
    → IsOf g.n g.op → IsOf (gives kinds repeated tokens g).n (gives kinds repeated tokens g).op
gives_is kinds repeated [] g others other is = is
gives_is [] repeated (token ∷ tokens) g others other is =
    gives_is [] repeated tokens (add_kind repeated token g) others other (kind_is repeated token g other is)
gives_is (kind ∷ kinds) repeated (token ∷ tokens) g others other is =
    gives_is kinds repeated tokens (add_kind (Some kind) token g) others.1 other (kind_is (Some kind) token g others.0 is)

given_is : (word : Word) (line : List (List ℕ)) → AreOthers (row word).kinds → is_other (row word).repeated ≡ true
    → IsOf (given_by word line).n (given_by word line).op
given_is word [] others other = tt
given_is word (token ∷ tokens) others other = gives_is (row word).kinds (row word).repeated tokens nothing others other tt

positive_index : (g : Given) → limit_of g ≡ None → 0 < g.n
positive_index g none = grind arith

prime_given : (N : ℕ) (g : Given) → limit_of g ≡ None → IsOf g.n g.op → uncoprime N (index_of g.op) ≡ None → IsPrimeTo N g.op
prime_given N g none is coprime = by g.op is coprime
  where
    by : (op : OpName) → IsOf g.n op → uncoprime N (index_of op) ≡ None → IsPrimeTo N op
    by (ops.T n) is coprime = (subst (λ k. 0 < k) (sym is) (positive_index g none), coprime_from_none N n coprime)
    by ops.Star is coprime = tt

-- the operators of a command
pub record ArePrimeTo (N : ℕ) (reading : Result Command CommandFault) : Type 0 where
  pub named : All (IsPrimeTo N) (read_operators named_operator reading)
  pub split : All (IsPrimeTo N) (read_operators split_operator reading)

no_operators : (N : ℕ) (reading : Result Command CommandFault) → read_operators named_operator reading ≡ []
    → read_operators split_operator reading ≡ [] → ArePrimeTo N reading
no_operators N reading e f = record {
  named = subst (All (IsPrimeTo N)) (sym e) (All-nil (IsPrimeTo N));
  split = subst (All (IsPrimeTo N)) (sym f) (All-nil (IsPrimeTo N));
}

one_operator : (N : ℕ) (op : OpName) → IsPrimeTo N op → All (IsPrimeTo N) (op ∷ [])
one_operator N op is = All-cons (IsPrimeTo N) op [] is (All-nil (IsPrimeTo N))

word_prime : (N : ℕ) (word : Word) (line : List (List ℕ)) → limit_of (given_by word line) ≡ None
    → uncoprime N (determinant_of (command word (given_by word line))) ≡ None → ArePrimeTo N (Ok (command word (given_by word line)))
word_prime N words.Normal line none coprime = no_operators N _ refl refl
word_prime N words.Basis line none coprime = no_operators N _ refl refl
word_prime N words.Reduce line none coprime = no_operators N _ refl refl
word_prime N words.Certify line none coprime = no_operators N _ refl refl
word_prime N words.Image line none coprime = no_operators N _ refl refl
word_prime N words.Star line none coprime = no_operators N _ refl refl
word_prime N words.Boundary line none coprime = no_operators N _ refl refl
word_prime N words.Cusps line none coprime = no_operators N _ refl refl
word_prime N words.Operator line none coprime = record {
  named = one_operator N _ (prime_given N (given_by words.Operator line) none (given_is words.Operator line (refl, tt) refl) coprime);
  split = All-nil (IsPrimeTo N);
}
word_prime N words.Apply line none coprime = record {
  named = one_operator N _ (prime_given N (given_by words.Apply line) none (given_is words.Apply line (refl, tt) refl) coprime);
  split = All-nil (IsPrimeTo N);
}
word_prime N words.Poly line none coprime = record {
  named = one_operator N _ (prime_given N (given_by words.Poly line) none (given_is words.Poly line (refl, (refl, tt)) refl) coprime);
  split = All-nil (IsPrimeTo N);
}
word_prime N words.Split line none coprime = record {
  named = one_operator N _ (prime_given N (given_by words.Split line) none (given_is words.Split line (refl, (refl, tt)) refl) coprime);
  split = one_operator N _ (prime_given N (given_by words.Split line) none (given_is words.Split line (refl, (refl, tt)) refl) coprime);
}
word_prime N words.Show line none coprime = no_operators N _ refl refl
word_prime N words.Part line none coprime = no_operators N _ refl refl
word_prime N words.Chains line none coprime = no_operators N _ refl refl

-- of what a line is read as, where nothing refuses it
reading_prime : (g : Ground) (line : List (List ℕ)) (form : Option Word)
    → ((v count : ℕ) → v < MAX_VERSIONS → reading_refusal g v count (command_by_form line form) ≡ None) → ArePrimeTo g.level
    (command_by_form line form)
reading_prime g line None unrefused = no_operators g.level (command_by_form line None) refl refl
reading_prime g line (Some word) unrefused = by (limit_of (given_by word line)) refl unrefused
  where
    by : (limit : Option LimitWord) → limit_of (given_by word line) ≡ limit
        → ((v count : ℕ) → v < MAX_VERSIONS → reading_refusal g v count (unless_limit limit (command word (given_by word line))) ≡ None)
        → ArePrimeTo g.level (unless_limit limit (command word (given_by word line)))
    by None e none = word_prime g.level word line e (coprime_command g (command word (given_by word line)) none)
    by (Some what) e none = no_operators g.level (Err (faults.Limit what)) refl refl

line_prime : (g : Ground) (text : List ℕ) → IsUnrefused g text → ArePrimeTo g.level (command_of text)
unfolding command_of
line_prime g text unrefused = reading_prime g (tokens text) (form_of (tokens text)) unrefused

-- ---- of a script
all_flat : {X Y : Type 0} (P : Y → Type 0) (Q : X → Type 0) (f : X → List Y) → ((x : X) → Q x → All P (f x)) → (xs : List X) → All Q xs → All P
    (flat_map f xs)
all_flat P Q f each [] all = All-nil P
all_flat P Q f each (x ∷ xs) all = All-append P (f x) (flat_map f xs) (each x (All-head Q x xs all)) (all_flat P Q f each xs (All-tail Q x xs all))

abbrev Unrefused : Ground → NumberedLine → Type 0
Unrefused g line = IsUnrefused g line.text

named_prime : (g : Ground) (sessions : List (List NumberedLine)) → All (All (Unrefused g)) sessions → All (IsPrimeTo g.level)
    (named_operators sessions)
named_prime g sessions all = all_flat (IsPrimeTo g.level) (All (Unrefused g)) (λ lines. session_operators named_operator lines)
    (λ lines unrefused. all_flat (IsPrimeTo g.level) (Unrefused g) (λ line. line_operators named_operator line)
    (λ line h. (line_prime g line.text h).named) lines unrefused)
    sessions all

split_prime : (g : Ground) (sessions : List (List NumberedLine)) → All (All (Unrefused g)) sessions → All (IsPrimeTo g.level)
    (split_operators sessions)
split_prime g sessions all = all_flat (IsPrimeTo g.level) (All (Unrefused g)) (λ lines. session_operators split_operator lines)
    (λ lines unrefused. all_flat (IsPrimeTo g.level) (Unrefused g) (λ line. line_operators split_operator line)
    (λ line h. (line_prime g line.text h).split) lines unrefused)
    sessions all

-- they keep congruence, and their matrices commute
pub record OperatorsAgree (script : ScriptText) : Type 0 where
  pub keep : (op : OpName) → Contains (named_operators script.sessions) op → KeepsCongruence (script_ground script) op
  pub commute : (op other : OpName) → Contains (split_operators script.sessions) op → Contains (split_operators script.sessions) other
      → HaveCommutingMatrices (script_ground script) op other

pub scripts_agree : (script : ScriptText) → IsListed script.space.characteristic → Fits script → OperatorsAgree script
scripts_agree script listed fits =
    let g : Ground = script_ground script in
    let prime : IsPrime script.space.characteristic = listed_prime script.space.characteristic listed in
    record {
      keep = λ op inside. operator_keeps g op (omega (arith, prime.above_one))
          (All-contains (IsPrimeTo g.level) (named_operators script.sessions) op (named_prime g script.sessions fits.unrefused) inside);
      commute = λ op other inside within. operator_matrices g op other prime
          (All-contains (IsPrimeTo g.level) (split_operators script.sessions) op (split_prime g script.sessions fits.unrefused) inside)
          (All-contains (IsPrimeTo g.level) (split_operators script.sessions) other (split_prime g script.sessions fits.unrefused) within);
    }

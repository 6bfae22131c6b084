-- What a line is read as; of a short line it has its numbers within limits.
use Rattle.std.proofs.Common.{◌≡◌, ◌&&◌, ◌+◌, ◌<◌, ◌≤◌, ◌^◌, ℕ, suc, Bool, true, false, cond, List, [], ◌∷◌, length, length-append, map}
use Rattle.std.proofs.Common.{filter, All, nat_lt, ltb-true, find, Option, Some, None, Result, Ok, Err, refl, ap, ◌∙◌, subst, arith}
use Rattle.std.specs.Prelude.{unwrap_or, take}
use Rattle.std.specs.List.{onto_first, range_with_len, slice_split}
use Rattle.std.specs.Str.{bytes_eq}
use Rattle.std.proofs.lemmas.Bool.{and_parts, cond_both}
use Rattle.std.proofs.lemmas.List.{length-map}
use Rattle.std.proofs.lemmas.List.Elements.{All-from_get_or, All-head, All-tail}
use Rattle.std.proofs.lemmas.List.FromFn.{get_or-range_with_len, length-range_with_len}
use Rattle.std.proofs.lemmas.Option.{same_Some}
use Rattle.std.proofs.lemmas.Slice.Eq.{bytes_eq-Decides}
use Rattle.text_lines.specs.Lines.{is_blank, is_token, parts, tokens}
use Rattle.text_lines.proofs.PartLemmas.{parts-cons}
use Rattle.script_text.specs.declared.command.Command.{Command}
use Rattle.script_text.specs.declared.command.Command.TheVariants as commands
use Rattle.script_text.specs.declared.command_fault.CommandFault.{CommandFault}
use Rattle.script_text.specs.declared.command_fault.CommandFault.TheVariants as faults
use Rattle.script_text.specs.declared.command_fault.LimitWord.{LimitWord}
use Rattle.script_text.specs.declared.kind.Kind.{Kind}
use Rattle.script_text.specs.declared.kind.Kind.TheVariants as kinds
use Rattle.script_text.specs.declared.word.Word.{Word}
use Rattle.script_text.specs.declared.word.Word.TheVariants as words
use Rattle.script_text.specs.Numbered.{IsShort}
use Rattle.script_text.specs.Tokens.{Given, nothing, integer, add_operator}
use Rattle.script_text.specs.Rows.{row, every_word}
use Rattle.script_text.specs.Grammar.{next_kind, rest, fits, follows, begins, is_form, form_of, begins_none, grammar_fault, add_kind, gives, given_by}
use Rattle.script_text.specs.Limits.{limit_of}
use Rattle.script_text.specs.Walk.{walk}
use Rattle.script_text.specs.Commands.{command, unless_limit, command_by_form, command_of, IsWithin}
use Rattle.script_text.proofs.WalkLemmas.{walk-next}
use Rattle.script_text.proofs.WithinLemmas.{IsReadAs, IsWithin-command, few_added}
use Rattle.legal_runs.proofs.WrittenLexemes.{IsSmall}

-- a split has a polynomial
abbrev pub HasCoefficients : Command → Type 0
HasCoefficients (commands.Split op coefficients) = 0 < length coefficients
HasCoefficients command = Unit {0}

abbrev pub IsReadWell : Result Command CommandFault → Type 0
IsReadWell (Ok command) = IsWithin command × HasCoefficients command
IsReadWell (Err (faults.Grammar token)) = IsSmall token
IsReadWell (Err fault) = Unit {0}

-- ---- tokens

first_counts : (x : ℕ) (ps : List (List ℕ)) → length (filter is_token (onto_first x ps)) ≤ length (filter is_token ps) + 1
first_counts x [] = omega arith
first_counts x ([] ∷ ps) = omega arith
first_counts x ((b ∷ piece) ∷ ps) = omega arith

-- a line has no more tokens than bytes
few_tokens : (line : List ℕ) → length (tokens line) ≤ length line
few_tokens [] = omega arith
few_tokens (b ∷ line) =
    let rest : length (tokens line) ≤ length line = few_tokens line in
    cond_both (is_blank b) ([] ∷ slice_split is_blank line) (onto_first b (slice_split is_blank line))
    (λ ps. length (filter is_token ps) ≤ suc (length line))
    (λ e. omega (arith, rest)) (λ e. omega (arith, rest, first_counts b (slice_split is_blank line)))

-- ---- the fault of a line

found_below : (test : ℕ → Bool) (xs : List ℕ) (d : ℕ) → All (λ t. t ≤ d) xs → unwrap_or (find test xs) d ≤ d
found_below test [] d h = omega arith
found_below test (x ∷ xs) d h =
    cond_both (test x) (Some x) (find test xs) (λ o. unwrap_or o d ≤ d) (λ e. All-head (λ t. t ≤ d) x xs h)
    (λ e. found_below test xs d (All-tail (λ t. t ≤ d) x xs h))

few_faults : (line : List (List ℕ)) → grammar_fault line ≤ length line + 1
few_faults line =
    let ks = range_with_len 1 (length line) in
    found_below (λ t. begins_none (take t line)) ks (length line + 1)
    (All-from_get_or (λ t. t ≤ length line + 1) ks 0
    (λ i l. let within : i < length line = omega (arith, l, length-range_with_len 1 (length line)) in
    omega (arith, get_or-range_with_len 1 (length line) i 0 within, within)))

-- ---- a line of a form

pub passes : {A : Type 0} (test : A → Bool) (xs : List A) (x : A) → find test xs ≡ Some x → test x ≡ true
passes test [] x e = absurd cc
passes {A} test (y ∷ xs) x e = by (passes test xs x) (test y) refl e
  where
    by : (find test xs ≡ Some x → test x ≡ true) → (b : Bool) → test y ≡ b → cond b (Some y) (find test xs) ≡ Some x → test x ≡ true
    by later true is same = subst (λ z. test z ≡ true) (same_Some y x same) is
    by later false is same = later same

rest-few : (ks : List Kind) (n : ℕ) → length ks ≤ suc n → length (rest ks) ≤ n
rest-few [] n l = omega arith
rest-few (k ∷ ks) n l = omega (arith, l)

walked : (ks : List Kind) (repeated : Option Kind) (token : ℕ) (g : Given) (ts : List (List ℕ)) → follows ks repeated ts ≡ true → length ks ≤ length ts
    → walk ks repeated token g ts ≡ Ok (gives ks repeated ts g)
unfolding walk
walked [] repeated token g [] h l = refl
walked (k ∷ ks) repeated token g [] h l = absurd (omega (arith, l))
walked ks repeated token g (t ∷ ts) h l =
    let both = and_parts (fits (next_kind ks repeated) t) (follows (rest ks) repeated ts) h in
    walk-next ks repeated token g t ts both.0
    ∙ walked (rest ks) repeated (suc token) (add_kind (next_kind ks repeated) t g) ts both.1 (rest-few ks (length ts) l)

few_integers : (ks : List Kind) (repeated : Option Kind) (ts : List (List ℕ)) (g : Given)
    → length (gives ks repeated ts g).integers ≤ length g.integers + length ts
few_integers ks repeated [] g = omega arith
few_integers ks repeated (t ∷ ts) g =
    let h = add_kind (next_kind ks repeated) t g in
    omega (arith, few_added (next_kind ks repeated) t g h refl, few_integers (rest ks) repeated ts h)

-- the coefficients of a split
some_coefficients : (ts : List (List ℕ)) → follows (row words.Split).kinds None ts ≡ true → 2 ≤ length ts
    → 0 < length (gives (row words.Split).kinds None ts nothing).coefficients
some_coefficients [] h l = absurd (omega (arith, l))
some_coefficients (a ∷ []) h l = absurd (omega (arith, l))
some_coefficients (a ∷ b ∷ []) h l =
    let before = (add_operator a nothing).coefficients in
    let (first, others, are) = parts-cons 44 b in
    omega (arith, length-append before (map integer (parts 44 b)), length-map (parts 44 b) integer, ap length are)
some_coefficients (a ∷ b ∷ c ∷ more) h l =
    let later : (fits (Some kinds.Coefficients) b && false) ≡ true = (and_parts (fits (Some kinds.Operator) a) _ h).1 in
    absurd (let none : false ≡ true = (and_parts (fits (Some kinds.Coefficients) b) false later).1 in cc)

has_coefficients : (word : Word) (ts : List (List ℕ)) → follows (row word).kinds (row word).repeated ts ≡ true → length (row word).kinds ≤ length ts
    → HasCoefficients (command word (gives (row word).kinds (row word).repeated ts nothing))
has_coefficients words.Split ts h l = some_coefficients ts h l
has_coefficients words.Normal ts h l = tt
has_coefficients words.Basis ts h l = tt
has_coefficients words.Reduce ts h l = tt
has_coefficients words.Certify ts h l = tt
has_coefficients words.Image ts h l = tt
has_coefficients words.Star ts h l = tt
has_coefficients words.Boundary ts h l = tt
has_coefficients words.Cusps ts h l = tt
has_coefficients words.Operator ts h l = tt
has_coefficients words.Apply ts h l = tt
has_coefficients words.Poly ts h l = tt
has_coefficients words.Show ts h l = tt
has_coefficients words.Part ts h l = tt
has_coefficients words.Chains ts h l = tt

form_read : (word : Word) (line : List (List ℕ)) → is_form (row word) line ≡ true → length line < 2 ^ 32
    → IsReadWell (unless_limit (limit_of (given_by word line)) (command word (given_by word line)))
form_read word [] form few = absurd (omega (arith, ltb-true (length (row word).kinds) 0 (and_parts (begins (row word) []) (nat_lt (length (row word).kinds) 0) form).1))
form_read word (first ∷ ts) form few =
    let outer = and_parts (begins (row word) (first ∷ ts)) (nat_lt (length (row word).kinds) (suc (length ts))) form in
    let inner = and_parts (bytes_eq first (row word).word) (follows (row word).kinds (row word).repeated ts) outer.0 in
    let enough : length (row word).kinds ≤ length ts = omega (arith, ltb-true (length (row word).kinds) (suc (length ts)) outer.1) in
    let g = given_by word (first ∷ ts) in
    let integers : length g.integers < 2 ^ 32 = omega (arith, few, few_integers (row word).kinds (row word).repeated ts nothing) in
    by (limit_of g) refl (λ none. IsWithin-command word ts g (walked (row word).kinds (row word).repeated 2 nothing ts inner.1 enough) integers none)
    (has_coefficients word ts inner.1 enough)
  where
    by : (o : Option LimitWord) → limit_of (given_by word (first ∷ ts)) ≡ o
        → (limit_of (given_by word (first ∷ ts)) ≡ None → IsWithin (command word (given_by word (first ∷ ts))))
        → HasCoefficients (command word (given_by word (first ∷ ts))) → IsReadWell (unless_limit o (command word (given_by word (first ∷ ts))))
    by None is within some = (within is, some)
    by (Some what) is within some = tt

-- ---- a line

pub read_well : (text : List ℕ) → IsShort text → IsReadWell (command_of text)
unfolding command_of
read_well text short = by (form_of (tokens text)) refl
  where
    few : length (tokens text) + 1 < 2 ^ 32
    few = omega (arith, few_tokens text, short)

    by : (o : Option Word) → form_of (tokens text) ≡ o → IsReadWell (command_by_form (tokens text) o)
    by None is = omega (arith, few, few_faults (tokens text))
    by (Some word) is = form_read word (tokens text) (passes (λ w. is_form (row w) (tokens text)) every_word word is) (omega (arith, few))

-- ---- a line that is read as a command

-- its first token is the word of a form, and the others give the command and break no limit
pub record CommandRead (text : List ℕ) (c : Command) : Type 0 where
  pub word : Word
  pub first : List ℕ
  pub others : List (List ℕ)
  pub line : tokens text ≡ first ∷ others
  pub named : first ≡ (row word).word
  pub given : Given
  pub read : IsReadAs word others given
  pub none : limit_of given ≡ None
  pub is : command word given ≡ c

form_command : (text : List ℕ) (word : Word) (line : List (List ℕ)) (c : Command) → tokens text ≡ line → is_form (row word) line ≡ true
    → unless_limit (limit_of (given_by word line)) (command word (given_by word line)) ≡ Ok c → CommandRead text c
form_command text word [] c are form same =
    absurd (omega (arith, ltb-true (length (row word).kinds) 0 (and_parts (begins (row word) []) (nat_lt (length (row word).kinds) 0) form).1))
form_command text word (first ∷ ts) c are form same =
    let outer = and_parts (begins (row word) (first ∷ ts)) (nat_lt (length (row word).kinds) (suc (length ts))) form in
    let inner = and_parts (bytes_eq first (row word).word) (follows (row word).kinds (row word).repeated ts) outer.0 in
    let enough : length (row word).kinds ≤ length ts = omega (arith, ltb-true (length (row word).kinds) (suc (length ts)) outer.1) in
    by (limit_of (given_by word (first ∷ ts))) refl ((bytes_eq-Decides first (row word).word).0 inner.0)
    (walked (row word).kinds (row word).repeated 2 nothing ts inner.1 enough) same
  where
    by : (o : Option LimitWord) → limit_of (given_by word (first ∷ ts)) ≡ o → first ≡ (row word).word
        → IsReadAs word ts (given_by word (first ∷ ts)) → unless_limit o (command word (given_by word (first ∷ ts))) ≡ Ok c → CommandRead text c
    by None none named read same = record {
      word = word;
      first = first;
      others = ts;
      line = are;
      named = named;
      given = given_by word (first ∷ ts);
      read = read;
      none = none;
      is = cc;
    }
    by (Some what) none named read same = absurd cc

pub command_read : (text : List ℕ) (c : Command) → command_of text ≡ Ok c → CommandRead text c
unfolding command_of
command_read text c same = by (form_of (tokens text)) refl same
  where
    by : (o : Option Word) → form_of (tokens text) ≡ o → command_by_form (tokens text) o ≡ Ok c → CommandRead text c
    by None is same = absurd cc
    by (Some word) is same = form_command text word (tokens text) c refl (passes (λ w. is_form (row w) (tokens text)) every_word word is) same

-- The tokens and the parts of texts that are put together from numerals.
use Rattle.std.proofs.Common.{◌≡◌, ◌≢◌, ℕ, ◌+◌, ◌≤◌, ◌==◌, Bool, true, false, not, List, [], ◌∷◌, ◌++◌, decimal, refl, sym, ap, subst, ◌∙◌, append_assoc, arith}
use Rattle.std.specs.Prelude.{All, pos, codes}
use Rattle.std.specs.List.{list_all}
use Rattle.std.proofs.lemmas.Bool.{eqb-true}
use Rattle.std.proofs.lemmas.Bool.Decides.{nat_tests}
use Rattle.std.proofs.lemmas.List.Elements.{All-cons}
use Rattle.std.proofs.lemmas.List.Folds.{list_all-append}
use Rattle.std.proofs.lemmas.List.Sums.{AllPass-from_list_all}
use Rattle.std.proofs.lemmas.List.Splits.{slice_split_none, slice_split_at}
use Rattle.text_lines.specs.Lines.{tokens, parts, is_blank, is_token, Lacks}
use Rattle.text_lines.specs.Numbers.{is_digit, is_natural, is_integer}
use Rattle.text_lines.proofs.SplitLemmas.{not_true}
use Rattle.text_lines.proofs.PartLemmas.{parts-ended}
use Rattle.text_lines.proofs.NumberLemmas.{capped_natural-small}
use Rattle.text_lines.proofs.NumeralLemmas.{is_natural-decimal, natural_of-decimal}
use Rattle.script_text.specs.declared.limits.TheConstants.{MAX_MAGNITUDE}
use Rattle.script_text.specs.declared.term.Term.{Term}
use Rattle.script_text.specs.declared.drawn.DrawnTerm.{DrawnTerm}
use Rattle.script_text.specs.Tokens.{is_term, natural, integer, term}
use Rattle.script_text.specs.Draws.{term_text}
use Rattle.script_text.specs.DrawnCommands.{drawn_term}
use Rattle.script_text.proofs.TestLemmas.{both, together}

-- ---- numerals

-- these digits are a numeral of n
pub record IsNumeral (n : ℕ) (digits : List ℕ) : Type 0 where
  pub are : is_natural digits ≡ true
  pub value : natural digits ≡ n

pub decimal-numeral : (n : ℕ) → n ≤ 1000 → IsNumeral n (decimal n)
decimal-numeral n small =
    let read = natural_of-decimal n (omega arith) in
    record {
      are = is_natural-decimal n (omega arith);
      value = capped_natural-small (MAX_MAGNITUDE + 1) (decimal n) (omega arith) ∙ read;
    }

digits-of : (digits : List ℕ) → is_natural digits ≡ true → list_all is_digit digits ≡ true
digits-of [] natural = refl
digits-of (d ∷ digits) natural = natural

no_minus : (d : ℕ) → is_digit d ≡ true → (d == 45) ≡ false
no_minus d digit = grind (arith, nat_tests)

pub numeral-integer : (n : ℕ) (digits : List ℕ) → IsNumeral n digits → (is_integer digits ≡ true) × (integer digits ≡ pos n)
numeral-integer n [] numeral = let none = numeral.are in absurd cc
numeral-integer n (d ∷ digits) numeral =
    let plus = no_minus d (both (is_digit d) (list_all is_digit digits) numeral.are).0 in
    (rw plus numeral.are, rw plus (ap pos numeral.value))

-- ---- bytes that a text lacks

not_blank : (d : ℕ) → is_digit d ≡ true → not (is_blank d) ≡ true
not_blank d digit = grind (arith, nat_tests)

not_byte : (b d : ℕ) → is_digit b ≡ false → is_digit d ≡ true → d ≢ b
not_byte b d other digit same = let clash : false ≡ true = sym other ∙ ap is_digit (sym same) ∙ digit in absurd cc

-- each byte of it passes where each digit does
digits-pass : (p : ℕ → Bool) (digits : List ℕ) → ((d : ℕ) → is_digit d ≡ true → p d ≡ true) → list_all is_digit digits ≡ true
    → list_all p digits ≡ true
digits-pass p [] pass all = refl
digits-pass p (d ∷ digits) pass all =
    let parts = both (is_digit d) (list_all is_digit digits) all in
    together (p d) (list_all p digits) (pass d parts.0) (digits-pass p digits pass parts.1)

numeral-lacks : (b n : ℕ) (digits : List ℕ) → is_digit b ≡ false → IsNumeral n digits → Lacks b digits
numeral-lacks b n digits other numeral =
    λ k d below. not_byte b _ other (AllPass-from_list_all is_digit digits (digits-of digits numeral.are) k d below)

-- ---- tokens

abbrev is_visible : ℕ → Bool
is_visible b = not (is_blank b)

-- a token: some bytes, none a space or a tab
pub record IsWord (token : List ℕ) : Type 0 where
  pub some : is_token token ≡ true
  pub visible : list_all is_visible token ≡ true

not_blank-from : (b : Bool) → not b ≡ true → b ≡ false
not_blank-from true e = absurd cc
not_blank-from false e = refl

none_blank : (token : List ℕ) → IsWord token → All (λ b. is_blank b ≡ false) token
none_blank token word = λ k d below. not_blank-from _ (AllPass-from_list_all is_visible token word.visible k d below)

pub tokens-end : (token : List ℕ) → IsWord token → tokens token ≡ token ∷ []
tokens-end token word = rw (slice_split_none is_blank token (none_blank token word), word.some) refl

pub tokens-more : (token more : List ℕ) → IsWord token → tokens (token ++ 32 ∷ more) ≡ token ∷ tokens more
tokens-more token more word = rw (slice_split_at is_blank token 32 more (none_blank token word) refl, word.some) refl

numeral-token : (n : ℕ) (digits : List ℕ) → IsNumeral n digits → is_token digits ≡ true
numeral-token n [] numeral = numeral.are
numeral-token n (d ∷ digits) numeral = refl

numeral-visible : (n : ℕ) (digits : List ℕ) → IsNumeral n digits → list_all is_visible digits ≡ true
numeral-visible n digits numeral = digits-pass is_visible digits not_blank (digits-of digits numeral.are)

pub numeral-word : (n : ℕ) (digits : List ℕ) → IsNumeral n digits → IsWord digits
numeral-word n digits numeral = record { some = numeral-token n digits numeral; visible = numeral-visible n digits numeral }

-- a numeral and other bytes after it
token-front : (token more : List ℕ) → is_token token ≡ true → is_token (token ++ more) ≡ true
token-front [] more some = absurd cc
token-front (b ∷ token) more some = refl

numeral-before : (n : ℕ) (digits more : List ℕ) → IsNumeral n digits → list_all is_visible more ≡ true → IsWord (digits ++ more)
numeral-before n digits more numeral visible = record {
  some = token-front digits more (numeral-token n digits numeral);
  visible =
      list_all-append is_visible digits more
      ∙ together (list_all is_visible digits) (list_all is_visible more) (numeral-visible n digits numeral) visible;
}

-- ---- terms

-- a token that is read as a term
pub record IsTermOf (t : Term) (token : List ℕ) : Type 0 where
  pub word : IsWord token
  pub is : is_term (parts 58 token) ≡ true
  pub value : term (parts 58 token) ≡ t

last_part : (b n : ℕ) (digits : List ℕ) → is_digit b ≡ false → IsNumeral n digits → parts b digits ≡ digits ∷ []
last_part b n digits other numeral =
    slice_split_none (λ d. d == b) digits (λ k d below. not_true _ (λ e. numeral-lacks b n digits other numeral k d below (eqb-true _ _ e)))

term-parts : (c v : ℕ) (cs vs : List ℕ) → IsNumeral c cs → IsNumeral v vs
    → parts 58 (cs ++ 58 ∷ 49 ∷ 58 ∷ vs) ≡ cs ∷ (49 ∷ []) ∷ vs ∷ []
term-parts c v cs vs coefficient second =
    parts-ended 58 cs (49 ∷ 58 ∷ vs) (numeral-lacks 58 c cs refl coefficient)
    ∙ ap (λ ps. cs ∷ (49 ∷ []) ∷ ps) (last_part 58 v vs refl second)

term-reads : (c v : ℕ) (cs vs : List ℕ) → IsNumeral c cs → IsNumeral v vs
    → IsTermOf (record { coefficient = pos c; u = pos 1; v = pos v }) (cs ++ 58 ∷ 49 ∷ 58 ∷ vs)
term-reads c v cs vs coefficient second =
    let are = term-parts c v cs vs coefficient second in
    let first = numeral-integer c cs coefficient in
    let last = numeral-integer v vs second in
    record {
      word = numeral-before c cs (58 ∷ 49 ∷ 58 ∷ vs) coefficient (numeral-visible v vs second);
      is = rw (are, first.0, last.0) refl;
      value = rw (are, first.1, last.1) refl;
    }

pub term_text-reads : (t : DrawnTerm) → t.coefficient ≤ 1000 → t.v ≤ 1000 → IsTermOf (drawn_term t) (term_text t)
term_text-reads t small below =
    subst (IsTermOf (drawn_term t)) (sym (append_assoc (decimal t.coefficient) (codes ":1:") (decimal t.v)))
    (term-reads t.coefficient t.v (decimal t.coefficient) (decimal t.v) (decimal-numeral t.coefficient small) (decimal-numeral t.v below))

-- ---- a polynomial of two coefficients

pub polynomial-parts : (c : ℕ) (digits : List ℕ) → IsNumeral c digits
    → parts 44 (45 ∷ digits ++ 44 ∷ 49 ∷ []) ≡ (45 ∷ digits) ∷ (49 ∷ []) ∷ []
polynomial-parts c digits constant =
    parts-ended 44 (45 ∷ digits) (49 ∷ [])
    (All-cons (λ b. b ≢ 44) 45 digits (λ e. omega arith) (numeral-lacks 44 c digits refl constant))

pub polynomial-word : (c : ℕ) (digits : List ℕ) → IsNumeral c digits → IsWord (45 ∷ digits ++ 44 ∷ 49 ∷ [])
polynomial-word c digits constant = record { some = refl; visible = (numeral-before c digits (44 ∷ 49 ∷ []) constant refl).visible }

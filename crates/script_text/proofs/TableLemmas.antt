-- Searches in the table of commands and in a range of numbers.
use Rattle.std.proofs.Common.{◌≡◌, ℕ, zero, suc, ◌+◌, ◌<◌, ◌≤◌, Bool, true, false, List, [], ◌∷◌, length, get_or, Option, Some, None, refl, sym, ap, ◌∙◌, arith, inl, inr, lit<}
use Rattle.std.specs.List.{find, list_any, range_with_len}
use Rattle.std.specs.Str.{bytes_eq}
use Rattle.std.proofs.lemmas.Bool.{cases_lt, cases_Bool}
use Rattle.std.proofs.lemmas.List.Folds.{list_any_at, list_any_none}
use Rattle.script_text.specs.declared.word.Word.{Word}
use Rattle.script_text.specs.declared.word.Word.TheVariants as words
use Rattle.script_text.specs.Rows.{row, every_word}

-- the place of a command in the table
place : Word → ℕ
place words.Normal = 0
place words.Basis = 1
place words.Reduce = 2
place words.Certify = 3
place words.Image = 4
place words.Star = 5
place words.Boundary = 6
place words.Cusps = 7
place words.Operator = 8
place words.Apply = 9
place words.Poly = 10
place words.Split = 11
place words.Show = 12
place words.Part = 13
place words.Chains = 14

every_word-place : (w : Word) → get_or every_word (place w) words.Show ≡ w
unfolding place
every_word-place words.Normal = refl
every_word-place w = refl

place-lt : (w : Word) → place w < length every_word
unfolding place
place-lt words.Normal = lit< tt
place-lt w = lit< tt

-- a test that one command passes, and one that none passes
pub any-word : (p : Word → Bool) (w : Word) → p w ≡ true → list_any p every_word ≡ true
any-word p w passes = list_any_at p every_word (place w) words.Show (place-lt w) (ap p (every_word-place w) ∙ passes)

pub no-word : (p : Word → Bool) → ((v : Word) → p v ≡ false) → list_any p every_word ≡ false
no-word p fails = list_any_none p every_word (λ k d below. fails _)

find-first : (p : Word → Bool) (ws : List Word) (w : Word) → list_any p ws ≡ true → ((v : Word) → p v ≡ true → v ≡ w) → find p ws ≡ Some w
find-first p [] w some only = absurd cc
find-first p (x ∷ xs) w some only =
    elim (cases_Bool (p x)) [
      | inl passes ↦ rw passes (ap (λ v. Some v) (only x passes))
      | inr fails ↦ rw fails (find-first p xs w (rw fails at some) only)
    ]

-- the only command that passes the test is found
pub find-word : (p : Word → Bool) (w : Word) → p w ≡ true → ((v : Word) → p v ≡ true → v ≡ w) → find p every_word ≡ Some w
find-word p w passes only = find-first p every_word w (any-word p w passes) only

find-none : (p : Word → Bool) (ws : List Word) → ((v : Word) → p v ≡ false) → find p ws ≡ None
find-none p [] fails = refl
find-none p (x ∷ xs) fails = rw (fails x) (find-none p xs fails)

pub find-no_word : (p : Word → Bool) → ((v : Word) → p v ≡ false) → find p every_word ≡ None
find-no_word p fails = find-none p every_word fails

-- the least number of a range that passes
pub find-least : (p : ℕ → Bool) (a n t : ℕ) → a ≤ t → t < a + n → ((k : ℕ) → a ≤ k → k < t → p k ≡ false) → p t ≡ true
    → find p (range_with_len a n) ≡ Some t
find-least p a zero t low high before at = absurd (omega arith)
find-least p a (suc n) t low high before at =
    elim (cases_lt a t) [
      | inl less ↦
          rw (before a (omega arith) less) (find-least p (a + 1) n t (omega arith) (omega arith) (λ k above below. before k (omega arith) below) at)
      | inr end ↦ let same : a ≡ t = omega arith in rw (same, at) refl
    ]

pub find-nowhere : (p : ℕ → Bool) (a n : ℕ) → ((k : ℕ) → a ≤ k → k < a + n → p k ≡ false) → find p (range_with_len a n) ≡ None
find-nowhere p a zero fails = refl
find-nowhere p a (suc n) fails =
    rw (fails a (omega arith) (omega arith)) (find-nowhere p (a + 1) n (λ k above below. fails k (omega arith) (omega arith)))

-- the command with this word
named : List ℕ → Option Word
named token = find (λ w. bytes_eq token (row w).word) every_word

named-row : (w : Word) → named (row w).word ≡ Some w
unfolding named
named-row words.Normal = refl
named-row w = refl

some_is : (v w : Word) → Some v ≡ Some w → v ≡ w
some_is v w e = cc

-- no two rows have the same word
pub words-apart : (v w : Word) → (row v).word ≡ (row w).word → v ≡ w
words-apart v w e = some_is v w (sym (named-row v) ∙ ap named e ∙ named-row w)

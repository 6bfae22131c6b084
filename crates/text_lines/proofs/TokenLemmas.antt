-- The tokens of a line: blanks before them, and the first of them.
use Rattle.std.proofs.Common.{◌≡◌, ℕ, zero, suc, ◌-◌, ◌<◌, ◌≤◌, true, false, eqb, eqb→eq, List, [], ◌∷◌, length, get_or, take, drop, add-zero, length-drop, refl, ap, arith, inl, inr}
use Rattle.std.proofs.lemmas.List.{get_or-drop, take_all, drop_all}
use Rattle.std.proofs.lemmas.Bool.{cases_lt}
use Rattle.text_lines.specs.Lines.{tokens, is_blank}
use Rattle.text_lines.proofs.SplitLemmas.{split-first, split-last}

pub tokens-blanks : (line : List ℕ) (n : ℕ) → n ≤ length line → ((k : ℕ) → k < n → is_blank (get_or line k 0) ≡ true)
    → tokens line ≡ tokens (drop n line)
tokens-blanks line zero within all = refl
tokens-blanks [] (suc n) within all = refl
tokens-blanks (b ∷ line) (suc n) within all =
    rw (all 0 (omega arith)) (tokens-blanks line n (omega arith) (λ k below. all (suc k) (omega arith)))

pub tokens-last : (line : List ℕ) → 0 < length line → ((k : ℕ) → k < length line → is_blank (get_or line k 0) ≡ false) → tokens line ≡ line ∷ []
tokens-last [] some before = absurd (omega arith)
tokens-last (b ∷ line) some before = rw (split-last is_blank (b ∷ line) before) refl

pub drop-next : (line : List ℕ) (n : ℕ) → drop 1 (drop n line) ≡ drop (suc n) line
drop-next line zero = refl
drop-next [] (suc n) = refl
drop-next (b ∷ line) (suc n) = drop-next line n

pub tokens-first : (line : List ℕ) (n : ℕ) → 0 < n → n < length line → ((k : ℕ) → k < n → is_blank (get_or line k 0) ≡ false)
    → is_blank (get_or line n 0) ≡ true → tokens line ≡ take n line ∷ tokens (drop n line)
tokens-first [] n some within before at = absurd (omega arith)
tokens-first (b ∷ line) zero some within before at = absurd (omega arith)
tokens-first (b ∷ line) (suc n) some within before at =
    let first = split-first is_blank (b ∷ line) (suc n) within before at in
    let after =
    split-first is_blank (drop (suc n) (b ∷ line)) 0 (omega (arith, length-drop (suc n) (b ∷ line))) (λ k below. absurd (omega arith))
    (rw (get_or-drop (suc n) (b ∷ line) 0 0, add-zero (suc n)) at) in
    rw (first, after, drop-next (b ∷ line) (suc n)) refl

-- a token of n bytes, which stops at a blank or at the end
pub tokens-word : (line : List ℕ) (n : ℕ) → 0 < n → n ≤ length line → ((k : ℕ) → k < n → is_blank (get_or line k 0) ≡ false)
    → (n < length line → is_blank (get_or line n 0) ≡ true) → tokens line ≡ take n line ∷ tokens (drop n line)
tokens-word line n some within before at =
    elim (cases_lt n (length line)) [
      | inl more ↦ tokens-first line n some more before (at more)
      | inr end ↦
          let all : n ≡ length line = omega arith in
          rw (all, take_all (length line) line (omega arith), drop_all (length line) line (omega arith))
          (tokens-last line (omega arith) (λ k below. before k (omega arith)))
    ]

pub tokens-after : (line : List ℕ) (n : ℕ) → n ≤ length line → ((k : ℕ) → k < n → is_blank (get_or line k 0) ≡ true)
    → tokens line ≡ tokens (take (length line - n) (drop n line))
tokens-after line n within all =
    rw (take_all (length line - n) (drop n line) (omega (arith, length-drop n line))) (tokens-blanks line n within all)

pub begins-after : (line : List ℕ) (n : ℕ) → n ≤ length line → (n < length line → is_blank (get_or line n 0) ≡ false)
    → 0 < length (take (length line - n) (drop n line)) → is_blank (get_or (take (length line - n) (drop n line)) 0 0) ≡ false
begins-after line n within stops some =
    let all = take_all (length line - n) (drop n line) (omega (arith, length-drop n line)) in
    let more : n < length line = omega (arith, length-drop n line, ap length all) in
    rw (all, get_or-drop n line 0 0, add-zero n) (stops more)

pub no_tokens : (line : List ℕ) → true ≡ eqb (length line) 0 → tokens line ≡ []
no_tokens [] e = refl
no_tokens (b ∷ line) e = absurd (grind (arith, eqb→eq))

pub token-next : (line : List ℕ) (n : ℕ) → false ≡ eqb (length line) 0 → (0 < length line → is_blank (get_or line 0 0) ≡ false) → n ≤ length line
    → ((k : ℕ) → k < n → is_blank (get_or line k 0) ≡ false) → (n < length line → is_blank (get_or line n 0) ≡ true)
    → tokens line ≡ take n line ∷ tokens (drop n line)
token-next [] n some begins within before at = absurd cc
token-next (b ∷ line) zero some begins within before at =
    let yes = at (omega arith) in let no = begins (omega arith) in absurd cc
token-next (b ∷ line) (suc n) some begins within before at = tokens-word (b ∷ line) (suc n) (omega arith) within before at

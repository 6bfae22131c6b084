-- The lines of a text: the first of them, and lines that are written and read back.
use Rattle.std.proofs.Common.{◌≡◌, ℕ, suc, ◌+◌, ◌-◌, ◌<◌, true, false, eqb, List, [], ◌∷◌, ◌++◌, length, get_or, take, drop, refl, ap, ◌∙◌, append_assoc, arith}
use Rattle.std.specs.Prelude.{All}
use Rattle.std.proofs.lemmas.List.{take_all, drop_all}
use Rattle.text_lines.specs.Lines.{lines, parts, ended, without_empty_last, Lacks}
use Rattle.text_lines.proofs.SplitLemmas.{split-cut, split-last}
use Rattle.text_lines.proofs.PartLemmas.{parts-cons, parts-ended}

-- a part that others follow is a line
without_empty_last-more : (piece first : List ℕ) (others : List (List ℕ))
    → without_empty_last (piece ∷ first ∷ others) ≡ piece ∷ without_empty_last (first ∷ others)
without_empty_last-more [] first others = refl
without_empty_last-more (b ∷ piece) first others = refl

lines-next : (bytes piece after : List ℕ) → parts 10 bytes ≡ piece ∷ parts 10 after → lines bytes ≡ piece ∷ lines after
lines-next bytes piece after split =
    let p = parts-cons 10 after in
    ap without_empty_last split ∙ rw p.2 (without_empty_last-more piece p.0 p.1)

-- the first line, and the slice that the code goes on with
pub lines-cut : (bytes : List ℕ) (n : ℕ) → n < length bytes → ((k : ℕ) → k < n → eqb (get_or bytes k 0) 10 ≡ false)
    → eqb (get_or bytes n 0) 10 ≡ true → lines bytes ≡ take n bytes ∷ lines (take (length bytes - (n + 1)) (drop (n + 1) bytes))
lines-cut bytes n within before at =
    lines-next bytes (take n bytes) (take (length bytes - (n + 1)) (drop (n + 1) bytes)) (split-cut (λ b. eqb b 10) bytes n within before at)

only_line : (bytes : List ℕ) → false ≡ eqb (length bytes) 0 → without_empty_last (bytes ∷ []) ≡ bytes ∷ []
only_line [] some = absurd cc
only_line (b ∷ bytes) some = refl

-- a text without a line feed is its only line
pub lines-last : (bytes : List ℕ) → false ≡ eqb (length bytes) 0 → ((k : ℕ) → k < length bytes → eqb (get_or bytes k 0) 10 ≡ false)
    → lines bytes ≡ take (length bytes) bytes ∷ lines (drop (length bytes) bytes)
lines-last bytes some before =
    rw (take_all (length bytes) bytes (omega arith), drop_all (length bytes) bytes (omega arith))
    (ap without_empty_last (split-last (λ b. eqb b 10) bytes before) ∙ only_line bytes some)

pub no_lines : (bytes : List ℕ) → true ≡ eqb (length bytes) 0 → lines bytes ≡ []
no_lines [] e = refl
no_lines (b ∷ bytes) e = absurd (grind arith)

pub lines-ended : (ls : List (List ℕ)) → All (Lacks 10) ls → lines (ended ls) ≡ ls
lines-ended [] lack = refl
lines-ended (line ∷ ls) lack =
    ap lines (append_assoc line (10 ∷ []) (ended ls))
    ∙ lines-next (line ++ 10 ∷ ended ls) line (ended ls) (parts-ended 10 line (ended ls) (lack 0 [] (omega arith)))
    ∙ ap (λ rest. line ∷ rest) (lines-ended ls (λ k d below. lack (suc k) d (omega arith)))

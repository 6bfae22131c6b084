-- What the readers of lexemes answer.
use Rattle.std.proofs.Common.{◌≡◌, ℕ, ◌^◌, ◌<◌, List, ◌∷◌, decimal, Option, Some, None, refl, sym, ap, ◌∙◌}
use Rattle.text_lines.specs.Lines.{parts}
use Rattle.text_lines.proofs.PartLemmas.{parts-cons}
use Rattle.reply_text.specs.Lexemes.{two, value_of}
use Rattle.reply_text.proofs.NumberTexts.{value_of-decimal, value_of-is}

pub value_some : (t : List ℕ) (n : ℕ) → n < 2 ^ 64 → t ≡ decimal n → Some n ≡ value_of t
value_some t n lt e = sym (value_of-decimal n lt) ∙ ap value_of (sym e)

pub value_none : (t : List ℕ) → ((n : ℕ) → n < 2 ^ 64 → t ≡ decimal n → ⊥) → None ≡ value_of t
value_none t h = sym (at (value_of t) refl)
  where
    at : (o : Option ℕ) → value_of t ≡ o → o ≡ None
    at None e = refl
    at (Some n) e = let is = value_of-is t n e in absurd (h n is.1 (sym is.0))

-- three parts are no two
pub two_more : (s : ℕ) (t a b u v : List ℕ) → parts s t ≡ a ∷ parts s u → parts s u ≡ b ∷ parts s v → two (parts s t) ≡ None
two_more s t a b u v e f = let p = parts-cons s v in rw (e, f, p.2) refl

-- The parts of a token.
use Rattle.std.proofs.Common.{◌≡◌, ℕ, false, List, ◌∷◌, refl}
use Rattle.text_lines.specs.Lines.{parts}
use Rattle.text_lines.proofs.PartLemmas.{parts-cons}
use Rattle.script_text.specs.Tokens.{is_term}

-- four parts or more are no term
pub four_parts : (a b c bytes : List ℕ) → is_term (a ∷ b ∷ c ∷ parts 58 bytes) ≡ false
four_parts a b c bytes = let p = parts-cons 58 bytes in rw p.2 refl

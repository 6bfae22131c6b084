-- What the readers of items answer.
use Rattle.std.proofs.Common.{◌≡◌, ℕ, Bool, true, false, not, List, Option, Some, None, refl, sym, ap, ◌∙◌}
use Rattle.text_lines.proofs.PartLemmas.{parts-cons}
use Rattle.reply_text.specs.declared.lexeme.Lexeme.{Lexeme}
use Rattle.reply_text.specs.Lexemes.{then_option, lexemes}
use Rattle.reply_text.specs.Wordings.{items_in, is_end, where_none, all_of, first, only}

-- where there is more, a lexeme is left
some_left : {A : Type 0} (more : Bool) (text : List ℕ) (x : A) → more ≡ true → where_none (lexemes more text) x ≡ None
some_left true text x e = let p = parts-cons 32 text in rw p.2 refl
some_left false text x e = absurd cc

pub only_none : {A : Type 0} (item : Lexeme → Option A) (ls : List Lexeme) (x : A) (more : Bool) (text : List ℕ)
    → first item ls ≡ Some (x, lexemes more text) → more ≡ true → None ≡ only item ls
only_none item ls x more text e some = sym (ap (λ o. then_option o (λ t. where_none t.1 t.0)) e ∙ some_left more text x some)

pub all_of_none : {A : Type 0} (item : Lexeme → Option A) (ls : List Lexeme) (more : Bool) (text : List ℕ) → lexemes more text ≡ (items_in item ls).1
    → more ≡ true → all_of item ls ≡ None
all_of_none item ls more text e some = ap (λ rest. where_none rest (items_in item ls).0) (sym e) ∙ some_left more text (items_in item ls).0 some

pub end_is : (more : Bool) (text : List ℕ) → not more ≡ is_end (lexemes more text)
end_is true text = let p = parts-cons 32 text in rw p.2 refl
end_is false text = refl

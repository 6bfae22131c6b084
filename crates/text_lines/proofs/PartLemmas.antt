-- Parts that are written and read back.
use Rattle.std.proofs.Common.{◌≡◌, ℕ, suc, true, false, cond, eqb, List, [], ◌∷◌, ◌++◌, refl, ap, ◌∙◌, arith}
use Rattle.std.specs.Prelude.{All}
use Rattle.std.specs.List.{onto_first}
use Rattle.std.proofs.lemmas.List.Splits.{slice_split_none, slice_split_at}
use Rattle.std.proofs.lemmas.Bool.{eqb-true, eq-eqb}
use Rattle.text_lines.specs.Lines.{parts, joined, Lacks}
use Rattle.text_lines.proofs.SplitLemmas.{not_true}

-- there is always a part
pub parts-cons : (separator : ℕ) (bytes : List ℕ) → (first : List ℕ) × (others : List (List ℕ)) × (parts separator bytes ≡ first ∷ others)
parts-cons separator [] = ([], [], refl)
parts-cons separator (b ∷ bytes) =
    let p = parts-cons separator bytes in
    elim (eqb b separator) as (λ v. (first : List ℕ) × (others : List (List ℕ))
    × (cond v ([] ∷ parts separator bytes) (onto_first b (parts separator bytes)) ≡ first ∷ others)) [
      | true ↦ ([], parts separator bytes, refl)
      | false ↦ (b ∷ p.0, p.1, rw p.2 refl)
    ]

-- no byte of the piece passes the test
none_passes : (separator : ℕ) (piece : List ℕ) → Lacks separator piece → All (λ b. eqb b separator ≡ false) piece
none_passes separator piece lacks = λ k d below. not_true _ (λ e. lacks k d below (eqb-true _ _ e))

pub parts-ended : (separator : ℕ) (piece bytes : List ℕ) → Lacks separator piece
    → parts separator (piece ++ separator ∷ bytes) ≡ piece ∷ parts separator bytes
parts-ended separator piece bytes lacks =
    slice_split_at (λ b. eqb b separator) piece separator bytes (none_passes separator piece lacks) (eq-eqb separator separator refl)

pub parts-joined : (separator : ℕ) (piece : List ℕ) (pieces : List (List ℕ)) → All (Lacks separator) (piece ∷ pieces)
    → parts separator (joined separator (piece ∷ pieces)) ≡ piece ∷ pieces
parts-joined separator piece [] lack = slice_split_none (λ b. eqb b separator) piece (none_passes separator piece (lack 0 [] (omega arith)))
parts-joined separator piece (next ∷ pieces) lack =
    parts-ended separator piece (joined separator (next ∷ pieces)) (lack 0 [] (omega arith))
    ∙ ap (λ ps. piece ∷ ps) (parts-joined separator next pieces (λ k d below. lack (suc k) d (omega arith)))

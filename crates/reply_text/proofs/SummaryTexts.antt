-- The text of a summary, piece by piece.
use Rattle.std.proofs.Common.{◌≡◌, ℕ, List, [], ◌∷◌, ◌++◌, length, codes, decimal, refl, append_assoc}
use Rattle.text_lines.specs.Lines.{ended}
use Rattle.reply_text.specs.declared.transcript.Transcript.{Transcript}
use Rattle.reply_text.specs.Rules.{replies_of}
use Rattle.reply_text.specs.Summaries.{is_ok, is_memory, count_replies, image_sum, summary_text}

-- a line of two pieces, of ten, and of eight, and what follows it
two : (a b rest more : List ℕ) → rest ≡ more → ((a ++ b) ++ 10 ∷ []) ++ rest ≡ a ++ (b ++ (10 ∷ more))
two a b rest more same = simp (append_assoc, same)

ten : (a b c d e f g h i j rest more : List ℕ) → rest ≡ more
    → ((a ++ b ++ c ++ d ++ e ++ f ++ g ++ h ++ i ++ j) ++ 10 ∷ []) ++ rest
    ≡ a ++ (b ++ (c ++ (d ++ (e ++ (f ++ (g ++ (h ++ (i ++ (j ++ (10 ∷ more))))))))))
ten a b c d e f g h i j rest more same = simp (append_assoc, same)

eight : (a b c d e f g h rest more : List ℕ) → rest ≡ more
    → ((a ++ b ++ c ++ d ++ e ++ f ++ g ++ h) ++ 10 ∷ []) ++ rest
    ≡ a ++ (b ++ (c ++ (d ++ (e ++ (f ++ (g ++ (h ++ (10 ∷ more))))))))
eight a b c d e f g h rest more same = simp (append_assoc, same)

pub summary_text-pieces : (seed : ℕ) (t : Transcript)
    → summary_text seed t
    ≡ codes "generated " ++ (decimal seed ++ (codes "\nspace " ++ (decimal t.modulus ++ (codes " " ++ (decimal t.characteristic
    ++ (codes " symbols " ++ (decimal t.symbols ++ (codes " sessions " ++ (decimal (length t.sessions) ++ (codes " commands "
    ++ (decimal (replies_of t.sessions) ++ (codes "\nok " ++ (decimal (count_replies is_ok t.sessions) ++ (codes " memory "
    ++ (decimal (count_replies is_memory t.sessions) ++ (codes " versions " ++ (decimal (length t.history) ++ (codes " columns "
    ++ (decimal t.columns ++ (codes "\nsum " ++ (decimal (image_sum seed t.sessions) ++ (codes "\nend\n" ++ []))))))))))))))))))))))
unfolding summary_text
summary_text-pieces seed t =
    two (codes "generated ") (decimal seed) _ _
    (ten (codes "space ") (decimal t.modulus) (codes " ") (decimal t.characteristic) (codes " symbols ") (decimal t.symbols)
    (codes " sessions ") (decimal (length t.sessions)) (codes " commands ") (decimal (replies_of t.sessions)) _ _
    (eight (codes "ok ") (decimal (count_replies is_ok t.sessions)) (codes " memory ") (decimal (count_replies is_memory t.sessions))
    (codes " versions ") (decimal (length t.history)) (codes " columns ") (decimal t.columns) _ _
    (two (codes "sum ") (decimal (image_sum seed t.sessions)) (ended (codes "end" ∷ [])) (codes "end\n" ++ []) refl)))

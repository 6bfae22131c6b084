-- The runs of one thread as loops make them: the lines up to i of a session and the sessions up to i of a script, with the pairs that they
-- have gathered.
use Rattle.std.proofs.Common.{◌≡◌, inl, inr, ℕ, ◌+◌, ◌<◌, List, [], ◌∷◌, ◌++◌, length, get_or, take, sym, ◌∙◌, ap, subst, arith}
use Rattle.std.specs.List.{AllZip, IsDistinct, enumerate_from}
use Rattle.std.proofs.lemmas.List.{take_more, length-take}
use Rattle.std.proofs.lemmas.Slice.Zip.{AllZip-long}
use Rattle.op_polynomials.specs.declared.entry.SplitEntry.{SplitEntry}
use Rattle.script_text.specs.Numbered.{NumberedLine}
use Rattle.script_text.specs.Valid.{ScriptText}
use Rattle.reply_text.specs.declared.transcript.ReplyLine.{ReplyLine}
use Rattle.reply_text.specs.declared.transcript.Transcript.{Transcript}
use Rattle.quotient_coords.specs.Quotient.{Ground}
use Rattle.session_core.specs.Demands.{is_pair, Has, Adds, Gathers, line_demand, told_demand, told_demands}
use Rattle.session_core.specs.Transcripts.{script_ground, HoldsDemand}
use Rattle.session_core.specs.SoloRuns.{Answers, AnswersLines, AnswersSessions, CountsToldColumns}
use Rattle.session_core.proofs.PairLemmas.{Has-nil, Adds_trans}
use Rattle.session_core.proofs.RunLemmas.{AnswersLines-push, AnswersSessions-push, numbered-push, told_demand-push, told_demands-push, zip-push, lines_hold_more, sessions_hold_more}

-- the items up to i, and the one at i
items_more : {A : Type 0} (xs : List A) (i : ℕ) (x : A) → i < length xs → x ≡ get_or xs i x → take i xs ++ x ∷ [] ≡ take (i + 1) xs
items_more xs i x within here = ap (λ y. take i xs ++ y ∷ []) here ∙ sym (take_more xs i x within)

-- one line more
pub AnswersLines_more : (g : Ground) (session : ℕ) (old mid new : List SplitEntry) (lines : List NumberedLine) (told : List ReplyLine) (i : ℕ)
    (line : NumberedLine) (r : ReplyLine) → i < length lines → line ≡ get_or lines i line
    → AnswersLines g session old (enumerate_from 1 (take i lines)) told mid → Answers g session mid (i + 1, line) r new
    → AnswersLines g session old (enumerate_from 1 (take (i + 1) lines)) (told ++ r ∷ []) new
AnswersLines_more g session old mid new lines told i line r within here before last =
    subst (λ ls. AnswersLines g session old (enumerate_from 1 ls) (told ++ r ∷ []) new) (items_more lines i line within here)
    (subst (λ ls. AnswersLines g session old ls (told ++ r ∷ []) new)
    (sym (numbered-push 1 (i + 1) (take i lines) line (omega (arith, length-take i lines))))
    (AnswersLines-push before last))

-- one session more
pub AnswersSessions_more : (g : Ground) (old mid new : List SplitEntry) (sessions : List (List NumberedLine)) (all : List (List ReplyLine)) (i : ℕ)
    (lines : List NumberedLine) (told : List ReplyLine) → i < length sessions → lines ≡ get_or sessions i lines
    → AnswersSessions g 1 old (take i sessions) all mid → AnswersLines g (i + 1) mid (enumerate_from 1 lines) told new
    → AnswersSessions g 1 old (take (i + 1) sessions) (all ++ told ∷ []) new
AnswersSessions_more g old mid new sessions all i lines told within here before last =
    let number : i + 1 ≡ 1 + length (take i sessions) = omega (arith, length-take i sessions) in
    subst (λ ss. AnswersSessions g 1 old ss (all ++ told ∷ []) new) (items_more sessions i lines within here)
    (AnswersSessions-push 1 (take i sessions) lines before (subst (λ n. AnswersLines g n mid (enumerate_from 1 lines) told new) number last))

-- a table serves the lines of a session with their replies
pub record Serves (g : Ground) (lines : List NumberedLine) (told : List ReplyLine) (old new : List (ℕ × ℕ)) : Type 0 where
  pub adds : Adds (told_demand g lines told) old new
  pub held : AllZip (HoldsDemand g new) lines told

-- no line is served by a table as it is
pub Serves-nil : (g : Ground) (xs : List (ℕ × ℕ)) → Serves g [] [] xs xs
Serves-nil g xs = record { adds = record { kept = λ q h. h; only = λ q h. inl h }; held = tt }

-- the line at i, after those before it
pub Serves_more : (g : Ground) (i : ℕ) (lines : List NumberedLine) (told : List ReplyLine) (line : NumberedLine) (r : ReplyLine)
    (old mid new : List (ℕ × ℕ)) → i < length lines → line ≡ get_or lines i line
    → Serves g (take i lines) told old mid → Gathers (line_demand g r.version line.text) r.reply mid new
    → Serves g (take (i + 1) lines) (told ++ r ∷ []) old new
Serves_more g i lines told line r old mid new within here before last =
    subst (λ ls. Serves g ls (told ++ r ∷ []) old new) (items_more lines i line within here) (record {
      adds = subst (λ pairs. Adds pairs old new)
          (sym (told_demand-push g (take i lines) told line r (AllZip-long (HoldsDemand g mid) (take i lines) told before.held)))
          (Adds_trans (told_demand g (take i lines) told) (line_demand g r.version line.text) old mid new before.adds last.adds);
      held = zip-push (HoldsDemand g new) (take i lines) told line r
          (lines_hold_more g mid new last.adds.kept (take i lines) told before.held) last.held;
    })

-- the same of sessions
pub record ServesAll (g : Ground) (sessions : List (List NumberedLine)) (all : List (List ReplyLine)) (old new : List (ℕ × ℕ)) : Type 0 where
  pub adds : Adds (told_demands g sessions all) old new
  pub held : AllZip (AllZip (HoldsDemand g new)) sessions all

pub ServesAll-nil : (g : Ground) (xs : List (ℕ × ℕ)) → ServesAll g [] [] xs xs
ServesAll-nil g xs = record { adds = record { kept = λ q h. h; only = λ q h. inl h }; held = tt }

-- the session at i, after those before it
pub ServesAll_more : (g : Ground) (i : ℕ) (sessions : List (List NumberedLine)) (all : List (List ReplyLine)) (lines : List NumberedLine)
    (told : List ReplyLine) (old mid new : List (ℕ × ℕ))
    → i < length sessions → lines ≡ get_or sessions i lines → ServesAll g (take i sessions) all old mid → Serves g lines told mid new
    → ServesAll g (take (i + 1) sessions) (all ++ told ∷ []) old new
ServesAll_more g i sessions all lines told old mid new within here before last =
    subst (λ ss. ServesAll g ss (all ++ told ∷ []) old new) (items_more sessions i lines within here) (record {
      adds = subst (λ pairs. Adds pairs old new)
          (sym (told_demands-push g (take i sessions) all lines told
          (AllZip-long (AllZip (HoldsDemand g mid)) (take i sessions) all before.held)))
          (Adds_trans (told_demands g (take i sessions) all) (told_demand g lines told) old mid new before.adds last.adds);
      held = zip-push (AllZip (HoldsDemand g new)) (take i sessions) all lines told
          (sessions_hold_more g mid new last.adds.kept (take i sessions) all before.held) last.held;
    })

-- the columns of a table that began with nothing are counted
pub columns_of_table : (script : ScriptText) (t : Transcript) (g : Ground) (old pairs : List (ℕ × ℕ)) → g ≡ script_ground script → old ≡ []
    → IsDistinct is_pair pairs → t.columns ≡ length pairs → ServesAll g script.sessions t.sessions old pairs → CountsToldColumns script t
columns_of_table script t g old pairs same none distinct counted served =
    let all : ServesAll (script_ground script) script.sessions t.sessions old pairs =
    subst (λ (x : Ground). ServesAll x script.sessions t.sessions old pairs) same served in
    record {
      pairs = pairs;
      distinct = distinct;
      counted = counted;
      only = λ q h. elim (all.adds.only q h) [
        | inl before ↦ absurd (Has-nil q (subst (λ xs. Has xs q) none before))
        | inr some ↦ some
      ];
      held = all.held;
    }

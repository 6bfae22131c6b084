-- The runs of one thread: a line, a session or a pair more at the end, and what stands at each place.
use Rattle.std.proofs.Common.{◌≡◌, ℕ, zero, suc, ◌+◌, ◌<◌, ◌≤◌, List, [], ◌∷◌, ◌++◌, length, length-append, take, Some, slice_get, refl, sym, ◌∙◌, ap, subst, arith, append_assoc, append-nil}
use Rattle.std.specs.List.{AllZip, enumerate_from}
use Rattle.std.proofs.Math.Seq.{take-append_seam}
use Rattle.std.proofs.lemmas.Option.{same_Some}
use Rattle.quotient_coords.specs.Quotient.{Ground}
use Rattle.op_polynomials.specs.declared.entry.SplitEntry.{SplitEntry}
use Rattle.script_text.specs.Numbered.{NumberedLine}
use Rattle.reply_text.specs.declared.transcript.ReplyLine.{ReplyLine}
use Rattle.session_core.specs.Demands.{Has, line_demand, told_demand, told_demands}
use Rattle.session_core.specs.Replies.{IsAccepted}
use Rattle.session_core.specs.Transcripts.{HoldsDemand}
use Rattle.session_core.specs.SoloRuns.{IsHistoryAfter, grown, unchanged, Answers, AnswersLines, AnswersSessions}

-- a history that goes on from another
pub record Continues (old new : List SplitEntry) : Type 0 where
  pub rest : List SplitEntry
  pub whole : new ≡ old ++ rest

pub Continues_refl : (old : List SplitEntry) → Continues old old
Continues_refl old = record { rest = []; whole = sym (append-nil old) }

pub Continues_trans : {old mid new : List SplitEntry} → Continues old mid → Continues mid new → Continues old new
Continues_trans {old = old} a b = record {
  rest = a.rest ++ b.rest;
  whole = b.whole ∙ ap (λ (es : List SplitEntry). es ++ b.rest) a.whole ∙ append_assoc old a.rest b.rest;
}

-- is no shorter
pub Continues-length : {old new : List SplitEntry} → Continues old new → length old ≤ length new
Continues-length {old = old} h = omega (arith, length-append old h.rest, ap (λ (es : List SplitEntry). length es) h.whole)

-- and begins with it
pub Continues-take : {old new : List SplitEntry} → Continues old new → take (length old) new ≡ old
Continues-take {old = old} h = ap (take (length old)) h.whole ∙ take-append_seam old h.rest

-- an item of a list stands in a longer one
pub get-append_left : {A : Type 0} (xs ys : List A) (k : ℕ) → k < length xs → slice_get (xs ++ ys) k ≡ slice_get xs k
get-append_left [] ys k l = absurd (omega (arith, l))
get-append_left (x ∷ xs) ys zero l = refl
get-append_left (x ∷ xs) ys (suc k) l = get-append_left xs ys k (omega (arith, l))

-- and so does the item after it
pub get-append_seam : {A : Type 0} (xs ys : List A) (y : A) → slice_get (xs ++ y ∷ ys) (length xs) ≡ Some y
get-append_seam [] ys y = refl
get-append_seam (x ∷ xs) ys y = get-append_seam xs ys y

-- a history goes on after a reply line
pub after_continues : {g : Ground} {session : ℕ} {text : List ℕ} {r : ReplyLine} {old new : List SplitEntry} → IsHistoryAfter g session text r old new
    → Continues old new
after_continues (grown {e = e} h) = record { rest = e ∷ []; whole = refl }
after_continues {old = old} (unchanged none) = Continues_refl old

-- and is longer after an accepted split
pub after_accepted : {g : Ground} {session : ℕ} {text : List ℕ} {r : ReplyLine} {old new : List SplitEntry} → IsHistoryAfter g session text r old new
    → IsAccepted r.reply → length old < length new
after_accepted {old = old} (grown {e = e} h) accepted = omega (arith, length-append old (e ∷ []))
after_accepted (unchanged none) accepted = absurd (none accepted)

-- and so it does after lines
pub lines_continue : {g : Ground} {session : ℕ} {old new : List SplitEntry} {lines : List (ℕ × NumberedLine)} {told : List ReplyLine}
    → AnswersLines g session old lines told new → Continues old new
lines_continue {old = old} AnswersLines.done = Continues_refl old
lines_continue (AnswersLines.next a rest) = Continues_trans (after_continues a.after) (lines_continue rest)

-- and after sessions
pub sessions_continue : {g : Ground} {session : ℕ} {old new : List SplitEntry} {sessions : List (List NumberedLine)} {all : List (List ReplyLine)}
    → AnswersSessions g session old sessions all new → Continues old new
sessions_continue {old = old} AnswersSessions.done = Continues_refl old
sessions_continue (AnswersSessions.next lines rest) = Continues_trans (lines_continue lines) (sessions_continue rest)

-- as many replies as lines
pub length-answered_lines : {g : Ground} {session : ℕ} {old new : List SplitEntry} {lines : List (ℕ × NumberedLine)} {told : List ReplyLine}
    → AnswersLines g session old lines told new → length told ≡ length lines
length-answered_lines AnswersLines.done = refl
length-answered_lines (AnswersLines.next a rest) = ap suc (length-answered_lines rest)

-- and as many lists of them as sessions
pub length-answered_sessions : {g : Ground} {session : ℕ} {old new : List SplitEntry} {sessions : List (List NumberedLine)}
    {all : List (List ReplyLine)}
    → AnswersSessions g session old sessions all new → length all ≡ length sessions
length-answered_sessions AnswersSessions.done = refl
length-answered_sessions (AnswersSessions.next lines rest) = ap suc (length-answered_sessions rest)

-- one line more
pub AnswersLines-push : {g : Ground} {session : ℕ} {old mid new : List SplitEntry} {lines : List (ℕ × NumberedLine)} {told : List ReplyLine}
    {line : ℕ × NumberedLine} {r : ReplyLine}
    → AnswersLines g session old lines told mid → Answers g session mid line r new
    → AnswersLines g session old (lines ++ line ∷ []) (told ++ r ∷ []) new
AnswersLines-push AnswersLines.done more = AnswersLines.next more AnswersLines.done
AnswersLines-push (AnswersLines.next a rest) more = AnswersLines.next a (AnswersLines-push rest more)

-- one session more
pub AnswersSessions-push : {g : Ground} (session : ℕ) {old mid new : List SplitEntry} (sessions : List (List NumberedLine))
    {all : List (List ReplyLine)} (lines : List NumberedLine) {told : List ReplyLine}
    → AnswersSessions g session old sessions all mid
    → AnswersLines g (session + length sessions) mid (enumerate_from 1 lines) told new
    → AnswersSessions g session old (sessions ++ lines ∷ []) (all ++ told ∷ []) new
AnswersSessions-push {g = g} session {new = new} [] lines {told = told} (AnswersSessions.done {old = mid}) more =
    let same : session + 0 ≡ session = omega arith in
    AnswersSessions.next (subst (λ n. AnswersLines g n mid (enumerate_from 1 lines) told new) same more) AnswersSessions.done
AnswersSessions-push {g = g} session {mid = mid} {new = new} (x ∷ sessions) lines {told = told} (AnswersSessions.next a rest) more =
    let same : session + length (x ∷ sessions) ≡ session + 1 + length sessions = omega arith in
    AnswersSessions.next a
    (AnswersSessions-push (session + 1) sessions lines rest (subst (λ n. AnswersLines g n mid (enumerate_from 1 lines) told new) same more))

-- a numbered list with one item more
pub numbered-push : {A : Type 0} (n k : ℕ) (xs : List A) (x : A) → k ≡ n + length xs
    → enumerate_from n (xs ++ x ∷ []) ≡ enumerate_from n xs ++ (k, x) ∷ []
numbered-push n k [] x e = ap (λ j. (j, x) ∷ []) (let same : n ≡ k = omega arith in same)
numbered-push n k (y ∷ xs) x e = ap (λ zs. (n, y) ∷ zs) (numbered-push (n + 1) k xs x (omega arith))

-- a line stands there with its number
pub get-enumerate_from : {A : Type 0} (n : ℕ) (xs : List A) (k : ℕ) (x : A) → slice_get xs k ≡ Some x
    → slice_get (enumerate_from n xs) k ≡ Some (n + k, x)
get-enumerate_from n [] k x at = absurd cc
get-enumerate_from n (y ∷ xs) zero x at =
    let same : n ≡ n + 0 = omega arith in
    λ i. Some (same i, same_Some y x at i)
get-enumerate_from n (y ∷ xs) (suc k) x at =
    let same : n + 1 + k ≡ n + suc k = omega arith in
    get-enumerate_from (n + 1) xs k x at ∙ ap (λ j. Some (j, x)) same

-- and what stands there is a line
pub get-from_enumerate : {A : Type 0} (n : ℕ) (xs : List A) (k : ℕ) (t : ℕ × A) → slice_get (enumerate_from n xs) k ≡ Some t
    → slice_get xs k ≡ Some t.1
get-from_enumerate n [] k t at = absurd cc
get-from_enumerate {A} n (y ∷ xs) zero t at = ap (λ (s : ℕ × A). Some s.1) (same_Some (n, y) t at)
get-from_enumerate n (y ∷ xs) (suc k) t at = get-from_enumerate (n + 1) xs k t at

-- the demand of one line more
pub told_demand-push : (g : Ground) (lines : List NumberedLine) (told : List ReplyLine) (line : NumberedLine) (r : ReplyLine)
    → length told ≡ length lines
    → told_demand g (lines ++ line ∷ []) (told ++ r ∷ []) ≡ told_demand g lines told ++ line_demand g r.version line.text
told_demand-push g [] [] line r e = append-nil (line_demand g r.version line.text)
told_demand-push g [] (s ∷ told) line r e = absurd (omega (arith, e))
told_demand-push g (l ∷ lines) [] line r e = absurd (omega (arith, e))
told_demand-push g (l ∷ lines) (s ∷ told) line r e =
    ap (λ (ps : List (ℕ × ℕ)). line_demand g s.version l.text ++ ps) (told_demand-push g lines told line r (omega (arith, e)))
    ∙ sym (append_assoc (line_demand g s.version l.text) (told_demand g lines told) (line_demand g r.version line.text))

-- and of one session more
pub told_demands-push : (g : Ground) (sessions : List (List NumberedLine)) (all : List (List ReplyLine)) (lines : List NumberedLine)
    (told : List ReplyLine) → length all ≡ length sessions
    → told_demands g (sessions ++ lines ∷ []) (all ++ told ∷ []) ≡ told_demands g sessions all ++ told_demand g lines told
told_demands-push g [] [] lines told e = append-nil (told_demand g lines told)
told_demands-push g [] (s ∷ all) lines told e = absurd (omega (arith, e))
told_demands-push g (l ∷ sessions) [] lines told e = absurd (omega (arith, e))
told_demands-push g (l ∷ sessions) (s ∷ all) lines told e =
    ap (λ (ps : List (ℕ × ℕ)). told_demand g l s ++ ps) (told_demands-push g sessions all lines told (omega (arith, e)))
    ∙ sym (append_assoc (told_demand g l s) (told_demands g sessions all) (told_demand g lines told))

-- a relation that implies another
pub zip_weaken : {A B : Type 0} (R S : A → B → Type 0) → ((x : A) (y : B) → R x y → S x y) → (xs : List A) (ys : List B) → AllZip R xs ys
    → AllZip S xs ys
zip_weaken R S each [] [] h = tt
zip_weaken R S each [] (y ∷ ys) h = absurd h
zip_weaken R S each (x ∷ xs) [] h = absurd h
zip_weaken R S each (x ∷ xs) (y ∷ ys) h = (each x y h.0, zip_weaken R S each xs ys h.1)

-- one pair of items more
pub zip-push : {A B : Type 0} (R : A → B → Type 0) (xs : List A) (ys : List B) (x : A) (y : B) → AllZip R xs ys → R x y
    → AllZip R (xs ++ x ∷ []) (ys ++ y ∷ [])
zip-push R [] [] x y h more = (more, tt)
zip-push R [] (z ∷ ys) x y h more = absurd h
zip-push R (z ∷ xs) [] x y h more = absurd h
zip-push R (z ∷ xs) (w ∷ ys) x y h more = (h.0, zip-push R xs ys x y h.1 more)

-- a greater table holds what lines demand
pub HoldsDemand_grows : (g : Ground) (old new : List (ℕ × ℕ)) → ((q : ℕ × ℕ) → Has old q → Has new q) → (line : NumberedLine) (r : ReplyLine)
    → HoldsDemand g old line r → HoldsDemand g new line r
HoldsDemand_grows g old new kept line r h = λ some q has. kept q (h some q has)

-- also of a session
pub lines_hold_more : (g : Ground) (old new : List (ℕ × ℕ)) → ((q : ℕ × ℕ) → Has old q → Has new q) → (lines : List NumberedLine)
    (told : List ReplyLine) → AllZip (HoldsDemand g old) lines told → AllZip (HoldsDemand g new) lines told
lines_hold_more g old new kept lines told h =
    zip_weaken (HoldsDemand g old) (HoldsDemand g new) (HoldsDemand_grows g old new kept) lines told h

-- and of all sessions
pub sessions_hold_more : (g : Ground) (old new : List (ℕ × ℕ)) → ((q : ℕ × ℕ) → Has old q → Has new q) → (sessions : List (List NumberedLine))
    (all : List (List ReplyLine)) → AllZip (AllZip (HoldsDemand g old)) sessions all → AllZip (AllZip (HoldsDemand g new)) sessions all
sessions_hold_more g old new kept sessions all h =
    zip_weaken (AllZip (HoldsDemand g old)) (AllZip (HoldsDemand g new)) (lines_hold_more g old new kept) sessions all h

-- The lines of a legal transcript: each command line has its reply line, and each reply line is that of a command line.
use Rattle.std.proofs.Common.{◌≡◌, ℕ, zero, suc, ◌+◌, List, [], ◌∷◌, length, get_or, All, Some, slice_get, refl, sym, ◌∙◌, ap, subst}
use Rattle.std.specs.List.{AllZip, enumerate_from}
use Rattle.std.proofs.lemmas.Option.{get_or_from_slice_get, same_Some, slice_get-get_or, slice_get_within}
use Rattle.quotient_coords.specs.Quotient.{Ground}
use Rattle.op_polynomials.specs.declared.entry.SplitEntry.{SplitEntry}
use Rattle.script_text.specs.Numbered.{NumberedLine}
use Rattle.script_text.specs.Valid.{ScriptText}
use Rattle.reply_text.specs.declared.transcript.ReplyLine.{ReplyLine}
use Rattle.reply_text.specs.declared.transcript.Transcript.{Transcript}
use Rattle.session_core.specs.Transcripts.{AreReplyLines, IsAnsweredBy, IsLegalTranscript, IsReplyLine, script_ground}
use Rattle.session_core.proofs.RunLemmas.{get-enumerate_from, get-from_enumerate}

-- what holds of all holds of what stands at a place
pub all_there : {A : Type 0} (P : A → Type 0) (xs : List A) (k : ℕ) (x : A) → All P xs → slice_get xs k ≡ Some x → P x
all_there P xs k x all at = subst P (get_or_from_slice_get xs k x x at) (all k x (slice_get_within xs k x at))

-- what stands at one place of two lists
pub zip_there : {A B : Type 0} (R : A → B → Type 0) (xs : List A) (ys : List B) → AllZip R xs ys → (k : ℕ) (x : A) (y : B) → slice_get xs k ≡ Some x
    → slice_get ys k ≡ Some y → R x y
zip_there R [] ys h k x y at there = absurd cc
zip_there R (a ∷ xs) [] h k x y at there = absurd h
zip_there R (a ∷ xs) (b ∷ ys) h zero x y at there = subst (λ z. R z y) (same_Some a x at) (subst (R a) (same_Some b y there) h.0)
zip_there R (a ∷ xs) (b ∷ ys) h (suc k) x y at there = zip_there R xs ys h.1 k x y at there

-- what stands at a place of one list has one beside it in the other
zip_right : {A B : Type 0} (R : A → B → Type 0) (xs : List A) (ys : List B) → AllZip R xs ys → (k : ℕ) (x : A) → slice_get xs k ≡ Some x
    → (y : B) × (slice_get ys k ≡ Some y)
zip_right R [] ys h k x at = absurd cc
zip_right R (a ∷ xs) [] h k x at = absurd h
zip_right R (a ∷ xs) (b ∷ ys) h zero x at = (b, refl)
zip_right R (a ∷ xs) (b ∷ ys) h (suc k) x at = zip_right R xs ys h.1 k x at

zip_left : {A B : Type 0} (R : A → B → Type 0) (xs : List A) (ys : List B) → AllZip R xs ys → (k : ℕ) (y : B) → slice_get ys k ≡ Some y
    → (x : A) × (slice_get xs k ≡ Some x)
zip_left R [] [] h k y there = absurd cc
zip_left R [] (b ∷ ys) h k y there = absurd h
zip_left R (a ∷ xs) [] h k y there = absurd cc
zip_left R (a ∷ xs) (b ∷ ys) h zero y there = (a, refl)
zip_left R (a ∷ xs) (b ∷ ys) h (suc k) y there = zip_left R xs ys h.1 k y there

-- as many reply lines as lines
pub lines_counted : (g : Ground) (history : List SplitEntry) (n : ℕ) (lines : List NumberedLine) (told : List ReplyLine)
    → AllZip (IsReplyLine g history) (enumerate_from n lines) told → length told ≡ length lines
lines_counted g history n [] [] h = refl
lines_counted g history n [] (r ∷ told) h = absurd h
lines_counted g history n (line ∷ lines) [] h = absurd h
lines_counted g history n (line ∷ lines) (r ∷ told) h = ap suc (lines_counted g history (n + 1) lines told h.1)

module _ (script : ScriptText) (t : Transcript) (legal : IsLegalTranscript script t) where
  -- the reply lines of a session are those of its lines
  session_there : (s : ℕ) (lines : List NumberedLine) (told : List ReplyLine) → slice_get script.sessions s ≡ Some lines
      → slice_get t.sessions s ≡ Some told → AreReplyLines (script_ground script) t.history lines told
  session_there s lines told at there =
      zip_there (AreReplyLines (script_ground script) t.history) script.sessions t.sessions legal.sessions s lines told at there

  -- and as many as these
  pub lines_beside : (s : ℕ) (told : List ReplyLine) → slice_get t.sessions s ≡ Some told
      → (lines : List NumberedLine) × (slice_get script.sessions s ≡ Some lines) × (length told ≡ length lines)
  lines_beside s told there =
      let (lines, at) = zip_left (AreReplyLines (script_ground script) t.history) script.sessions t.sessions legal.sessions s told there in
      (lines, at, lines_counted (script_ground script) t.history 1 lines told (session_there s lines told at there))

  -- a reply line is that of its command line
  pub reply_line : (s c : ℕ) (line : NumberedLine) (r : ReplyLine) → IsAnsweredBy script t s c line r
      → IsReplyLine (script_ground script) t.history (1 + c, line) r
  reply_line s c line r h =
      zip_there (IsReplyLine (script_ground script) t.history) (enumerate_from 1 h.lines) h.told
      (session_there s h.lines h.told h.session h.session_told) c (1 + c, line) r (get-enumerate_from 1 h.lines c line h.command) h.command_told

  -- each command line has one
  pub reply_of : (s c : ℕ) (lines : List NumberedLine) (line : NumberedLine) → slice_get script.sessions s ≡ Some lines
      → slice_get lines c ≡ Some line → (r : ReplyLine) × IsAnsweredBy script t s c line r
  reply_of s c lines line at command =
      let (told, there) = zip_right (AreReplyLines (script_ground script) t.history) script.sessions t.sessions legal.sessions s lines at in
      let (r, command_told) = zip_right (IsReplyLine (script_ground script) t.history) (enumerate_from 1 lines) told
      (session_there s lines told at there) c (1 + c, line) (get-enumerate_from 1 lines c line command) in
      (r, record { lines = lines; told = told; session = at; session_told = there; command = command; command_told = command_told })

  -- and each reply line has a command line
  pub line_of : (s c : ℕ) (told : List ReplyLine) (r : ReplyLine) → slice_get t.sessions s ≡ Some told → slice_get told c ≡ Some r
      → (line : NumberedLine) × IsAnsweredBy script t s c line r
  line_of s c told r there command_told =
      let (lines, at) = zip_left (AreReplyLines (script_ground script) t.history) script.sessions t.sessions legal.sessions s told there in
      let (numbered, command) = zip_left (IsReplyLine (script_ground script) t.history) (enumerate_from 1 lines) told
      (session_there s lines told at there) c r command_told in (
        numbered.1,
        record {
          lines = lines;
          told = told;
          session = at;
          session_told = there;
          command = get-from_enumerate 1 lines c numbered command;
          command_told = command_told;
        },
      )

  -- so what holds of the reply line of each command line holds of all
  pub all_told : (P : ReplyLine → Type 0) → ((s c : ℕ) (line : NumberedLine) (r : ReplyLine) → IsAnsweredBy script t s c line r → P r)
      → All (All P) t.sessions
  all_told P each = λ s d within c e inside.
      let told = get_or t.sessions s d in
      let r = get_or told c e in
      let (line, answered) = line_of s c told r (slice_get-get_or t.sessions s d within) (slice_get-get_or told c e inside) in
      each s c line r answered

-- a place has one reply line
pub one_reply : (script : ScriptText) (t : Transcript) (s k c m : ℕ) (line other : NumberedLine) (r q : ReplyLine) → s ≡ k → c ≡ m
    → IsAnsweredBy script t s c line r → IsAnsweredBy script t k m other q → r ≡ q
one_reply script t s k c m line other r q same at h x =
    let told : h.told ≡ x.told = same_Some h.told x.told (sym h.session_told ∙ ap (slice_get t.sessions) same ∙ x.session_told) in
    same_Some r q (sym h.command_told ∙ ap (slice_get h.told) at ∙ ap (λ (rs : List ReplyLine). slice_get rs m) told ∙ x.command_told)

-- The lines that a session has answered so far, over the accepted splits that its pass has seen.
use Rattle.std.proofs.Common.{◌≡◌, ◌⊎◌, inl, inr, ℕ, zero, suc, ◌+◌, ◌<◌, ◌≤◌, List, [], ◌∷◌, ◌++◌, length, length-append, take, Some, get_or, slice_get, refl, sym, ◌∙◌, ap, subst, arith}
use Rattle.std.specs.List.{AllZip, enumerate_from}
use Rattle.std.proofs.lemmas.List.{take_all, take_more, length-take}
use Rattle.std.proofs.lemmas.List.Quantifiers.{all_pairs_push}
use Rattle.std.proofs.lemmas.Option.{same_Some, slice_get_within, slice_get-get_or}
use mathlib.Core.List.{IsPrefix}
use Rattle.quotient_coords.specs.Quotient.{Ground}
use Rattle.op_polynomials.specs.declared.entry.SplitEntry.{SplitEntry}
use Rattle.script_text.specs.Numbered.{NumberedLine}
use Rattle.reply_text.specs.declared.reply.Reply.TheVariants as replies
use Rattle.reply_text.specs.declared.transcript.ReplyLine.{ReplyLine}
use Rattle.session_core.specs.Replies.{IsReply, IsAccepted}
use Rattle.session_core.specs.SoloRuns.{IsHistoryAfter, grown, unchanged}
use Rattle.session_core.specs.Transcripts.{IsReplyLine, Follows, IsEntry, EntersHistory}
use Rattle.session_core.proofs.RunLemmas.{Continues, after_continues, after_accepted, Continues-length, get-append_left, get-append_seam, numbered-push, zip_weaken, zip-push}
use Rattle.host_workers.specs.Workers.{AnswersSession}
use Rattle.host_workers.specs.Sessions.{AnswersLine, GoesOn}
use Rattle.split_versions.specs.Histories.{maker_of}
use Rattle.host_workers.proofs.GoingOn.{prefix_trans, prefix-length, prefix_get, prefix_take, prefix_whole}

-- lines that were answered, where the session has learnt or committed so many splits
pub record HasAnswered (g : Ground) (s : ℕ) (lines : List NumberedLine) (told : List ReplyLine) (known : ℕ) (entries : List SplitEntry) : Type 0 where
  pub answers : AnswersSession g s lines told entries
  pub count : length told ≡ length lines
  pub within : known ≤ length entries
  pub versions : (c : ℕ) (r : ReplyLine) → slice_get told c ≡ Some r → r.version ≤ known
  pub accepted : (c : ℕ) (r : ReplyLine) → slice_get told c ≡ Some r → IsAccepted r.reply → r.version < known

-- none so far
pub HasAnswered-none : (g : Ground) (s : ℕ) → HasAnswered g s [] [] 0 []
HasAnswered-none g s = record {
  answers = record {
    replies = tt;
    rising = λ i j d before within. absurd (omega (arith, within));
    entered = λ c line r at told_at accepted. absurd cc;
    own = λ w e at mine. absurd cc;
  };
  count = refl;
  within = omega arith;
  versions = λ c r at. absurd cc;
  accepted = λ c r at is. absurd cc;
}

-- a continuation by its rest is a beginning
begins_of : {old new : List SplitEntry} → Continues old new → IsPrefix old new
begins_of c = (c.rest, sym c.whole)

-- a reply line is one of a longer history
reply_line_later : (g : Ground) (old new : List SplitEntry) (line : ℕ × NumberedLine) (r : ReplyLine) → IsPrefix old new
    → IsReplyLine g old line r → IsReplyLine g new line r
reply_line_later g old new line r p h = record {
  numbered = h.numbered;
  version = omega (arith, h.version, prefix-length old new p);
  reply = subst (λ es. IsReply g es line.1.text r.reply ⊎ (r.reply ≡ replies.Memory)) (sym (prefix_take old new r.version h.version p)) h.reply;
}

-- and so is that of a line just answered
reply_line_now : (g : Ground) (s : ℕ) (line : ℕ × NumberedLine) (known reached : ℕ) (old new : List SplitEntry) (r : ReplyLine)
    → AnswersLine g s line known old r reached new → IsReplyLine g new line r
reply_line_now g s line known reached old new r a =
    let grows : Continues a.before a.after = after_continues a.answers.after in
    let into : IsPrefix a.before new = prefix_trans a.before a.after new (begins_of grows) a.into in
    let here : take r.version new ≡ a.before = ap (λ n. take n new) a.answers.version ∙ prefix_whole a.before new into in
    record {
      numbered = a.answers.numbered;
      version = omega (arith, a.answers.version, prefix-length a.before new into);
      reply = subst (λ es. IsReply g es line.1.text r.reply ⊎ (r.reply ≡ replies.Memory)) (sym here) a.answers.reply;
    }

-- an accepted split stands at its version
entered_now : (g : Ground) (s : ℕ) (text : List ℕ) (before after new : List SplitEntry) (r : ReplyLine) → IsHistoryAfter g s text r before after
    → IsPrefix after new → r.version ≡ length before → IsAccepted r.reply → EntersHistory g new s text r
entered_now g s text before after new r (grown {e = e} h) into version accepted = record {
  entry = e;
  at_version = ap (slice_get new) version ∙ prefix_get after new (length before) e into (get-append_seam before [] e);
  is_entry = h;
}
entered_now g s text before after new r (unchanged none) into version accepted = absurd (none accepted)

-- an entry past the splits of the version is that of the line
entry_now : (g : Ground) (s : ℕ) (text : List ℕ) (before after : List SplitEntry) (r : ReplyLine) (w : ℕ) (e : SplitEntry)
    → IsHistoryAfter g s text r before after → length before ≤ w → slice_get after w ≡ Some e → (w ≡ length before) × IsEntry g s text r e
entry_now g s text before after r w e (grown {e = last} h) past at =
    let within : w < length (before ++ last ∷ []) = slice_get_within (before ++ last ∷ []) w e at in
    let here : w ≡ length before = omega (arith, length-append before (last ∷ [])) in (
      here,
      subst (IsEntry g s text r)
          (same_Some last e (sym (get-append_seam before [] last) ∙ ap (slice_get (before ++ last ∷ [])) (sym here) ∙ at)) h,
    )
entry_now g s text before after r w e (unchanged none) past at =
    let within : w < length before = slice_get_within before w e at in
    absurd (omega arith)

-- what stands in a list with one item more
pub pushed_at : {A : Type 0} (xs : List A) (x y : A) (k : ℕ) → slice_get (xs ++ x ∷ []) k ≡ Some y
    → (slice_get xs k ≡ Some y) ⊎ ((k ≡ length xs) × (x ≡ y))
pushed_at [] x y zero at = inr (refl, same_Some x y at)
pushed_at [] x y (suc k) at = absurd cc
pushed_at (z ∷ xs) x y zero at = inl at
pushed_at (z ∷ xs) x y (suc k) at = elim (pushed_at xs x y k at) [
  | inl there ↦ inl there
  | inr here ↦ inr (ap suc here.0, here.1)
]

-- one line more
pub HasAnswered-more : (g : Ground) (s : ℕ) (lines : List NumberedLine) (told : List ReplyLine) (known reached number : ℕ)
    (old new : List SplitEntry) (line : NumberedLine) (r : ReplyLine) → number ≡ length lines + 1 → HasAnswered g s lines told known old
    → AnswersLine g s (number, line) known old r reached new → HasAnswered g s (lines ++ line ∷ []) (told ++ r ∷ []) reached new
HasAnswered-more g s lines told known reached number old new line r numbered h a =
    let longer : length a.before ≤ length a.after = Continues-length (after_continues a.answers.after) in
    record {
      answers = record {
        replies = subst (λ ls. AllZip (IsReplyLine g new) ls (told ++ r ∷ [])) (sym (numbered-push 1 number lines line (omega (arith, numbered))))
            (zip-push (IsReplyLine g new) (enumerate_from 1 lines) told (number, line) r
            (zip_weaken (IsReplyLine g old) (IsReplyLine g new) (λ l t. reply_line_later g old new l t a.begins) (enumerate_from 1 lines) told
            h.answers.replies) (reply_line_now g s (number, line) known reached old new r a));
        rising = all_pairs_push Follows told r h.answers.rising (λ k d within.
            let at : slice_get told k ≡ Some (get_or told k d) = slice_get-get_or told k d within in
            record {
              no_earlier = omega (arith, h.versions k (get_or told k d) at, a.answers.version, a.no_earlier);
              after_split = λ accepted. omega (arith, h.accepted k (get_or told k d) at accepted, a.answers.version, a.no_earlier);
            });
        entered = λ c l t at told_at accepted. entered c l t (pushed_at lines line l c at) (pushed_at told r t c told_at) accepted;
        own = λ w e at mine. elim (a.own w e at mine) [
          | inl there ↦ earlier w e (h.answers.own w e there mine)
          | inr past ↦ now w e (entry_now g s line.text a.before a.after r w e a.answers.after past.0 past.1)
        ];
      };
      count = omega (arith, h.count, length-append told (r ∷ []), length-append lines (line ∷ []));
      within = a.within;
      versions = λ c t at. elim (pushed_at told r t c at) [
        | inl there ↦ omega (arith, h.versions c t there, a.no_earlier, a.no_later, longer)
        | inr here ↦ subst (λ (x : ReplyLine). x.version ≤ reached) here.1 (omega (arith, a.answers.version, a.no_later, longer))
      ];
      accepted = λ c t at accepted. elim (pushed_at told r t c at) [
        | inl there ↦ omega (arith, h.accepted c t there accepted, a.no_earlier, a.no_later, longer)
        | inr here ↦ reached_by t here.1 accepted
      ];
    }
  where
    reached_by : (t : ReplyLine) → r ≡ t → IsAccepted t.reply → t.version < reached
    reached_by t same accepted = subst (λ (x : ReplyLine). x.version < reached) same
        (omega (arith, after_accepted a.answers.after (subst (λ (x : ReplyLine). IsAccepted x.reply) (sym same) accepted), a.answers.version, a.no_later))

    entered : (c : ℕ) (l : NumberedLine) (t : ReplyLine) → (slice_get lines c ≡ Some l) ⊎ ((c ≡ length lines) × (line ≡ l))
        → (slice_get told c ≡ Some t) ⊎ ((c ≡ length told) × (r ≡ t)) → IsAccepted t.reply → EntersHistory g new s l.text t
    entered c l t (inl at) (inl told_at) accepted =
        let before = h.answers.entered c l t at told_at accepted in
        record {
          entry = before.entry;
          at_version = prefix_get old new t.version before.entry a.begins before.at_version;
          is_entry = before.is_entry;
        }
    entered c l t (inl at) (inr told_now) accepted = let within = slice_get_within lines c l at in absurd (omega (arith, within, told_now.0, h.count))
    entered c l t (inr now) (inl told_at) accepted = let within = slice_get_within told c t told_at in absurd (omega (arith, within, now.0, h.count))
    entered c l t (inr now) (inr told_now) accepted =
        subst (λ (x : NumberedLine). EntersHistory g new s x.text t) now.1
        (subst (λ (x : ReplyLine). IsAccepted x.reply → EntersHistory g new s line.text x) told_now.1
        (entered_now g s line.text a.before a.after new r a.answers.after a.into a.answers.version) accepted)

    earlier : (w : ℕ) (e : SplitEntry) → (c : ℕ) × (l : NumberedLine) × (t : ReplyLine) × (slice_get lines c ≡ Some l) × (slice_get told c ≡ Some t)
        × (t.version ≡ w) × IsEntry g s l.text t e
        → (c : ℕ) × (l : NumberedLine) × (t : ReplyLine) × (slice_get (lines ++ line ∷ []) c ≡ Some l) × (slice_get (told ++ r ∷ []) c ≡ Some t)
        × (t.version ≡ w) × IsEntry g s l.text t e
    earlier w e (c, l, t, at, told_at, version, entry) = (
      c,
      l,
      t,
      get-append_left lines (line ∷ []) c (slice_get_within lines c l at) ∙ at,
      get-append_left told (r ∷ []) c (slice_get_within told c t told_at) ∙ told_at,
      version,
      entry,
    )

    now : (w : ℕ) (e : SplitEntry) → (w ≡ length a.before) × IsEntry g s line.text r e
        → (c : ℕ) × (l : NumberedLine) × (t : ReplyLine) × (slice_get (lines ++ line ∷ []) c ≡ Some l) × (slice_get (told ++ r ∷ []) c ≡ Some t)
        × (t.version ≡ w) × IsEntry g s l.text t e
    now w e (here, entry) = (
      length lines,
      line,
      r,
      get-append_seam lines [] line,
      ap (slice_get (told ++ r ∷ [])) (sym h.count) ∙ get-append_seam told [] r,
      a.answers.version ∙ sym here,
      entry,
    )

-- the line at i, after those before it
pub HasAnswered_more : (g : Ground) (s i : ℕ) (lines : List NumberedLine) (told : List ReplyLine) (known reached : ℕ) (old new : List SplitEntry)
    (line : NumberedLine) (r : ReplyLine) → i < length lines → line ≡ get_or lines i line → HasAnswered g s (take i lines) told known old
    → AnswersLine g s (i + 1, line) known old r reached new → HasAnswered g s (take (i + 1) lines) (told ++ r ∷ []) reached new
HasAnswered_more g s i lines told known reached old new line r within here h a =
    subst (λ ls. HasAnswered g s ls (told ++ r ∷ []) reached new)
    (ap (λ y. take i lines ++ y ∷ []) here ∙ sym (take_more lines i line within))
    (HasAnswered-more g s (take i lines) told known reached (i + 1) old new line r (omega (arith, length-take i lines)) h a)

-- none was told, and none is seen
pub HasAnswered-start : (g : Ground) (s : ℕ) (told : List ReplyLine) (entries : List SplitEntry) → told ≡ [] → entries ≡ []
    → HasAnswered g s [] told 0 entries
HasAnswered-start g s told entries none unseen =
    subst (λ rs. HasAnswered g s [] rs 0 entries) (sym none) (subst (λ es. HasAnswered g s [] [] 0 es) (sym unseen) (HasAnswered-none g s))

-- the line at i by its number, told at the end of the list
pub HasAnswered_next : (g : Ground) (m n i number : ℕ) (lines : List NumberedLine) (told longer : List ReplyLine) (known reached : ℕ)
    (old new : List SplitEntry) (line : NumberedLine) (r : ReplyLine) → m ≡ n → number ≡ i → i < length lines → line ≡ get_or lines i line
    → longer ≡ told ++ r ∷ [] → HasAnswered g (n + 1) (take i lines) told known old
    → AnswersLine g (m + 1) (number + 1, line) known old r reached new → HasAnswered g (n + 1) (take (i + 1) lines) longer reached new
HasAnswered_next g m n i number lines told longer known reached old new line r same numbered within here grows h a =
    subst (λ rs. HasAnswered g (n + 1) (take (i + 1) lines) rs reached new) (sym grows)
    (HasAnswered_more g (n + 1) i lines told known reached old new line r within here h
    (subst (λ k. AnswersLine g (n + 1) (k + 1, line) known old r reached new) numbered
    (subst (λ k. AnswersLine g (k + 1) (number + 1, line) known old r reached new) same a)))

-- all lines of the session
pub session_answers : (g : Ground) (s i : ℕ) (lines : List NumberedLine) (told : List ReplyLine) (known : ℕ) (entries : List SplitEntry)
    → length lines ≤ i → HasAnswered g s (take i lines) told known entries → AnswersSession g s lines told entries
session_answers g s i lines told known entries all h =
    subst (λ ls. AnswersSession g s ls told entries) (take_all i lines all) h.answers

-- a line before whose answer the list went on
pub answers_later : (g : Ground) (s : ℕ) (line : ℕ × NumberedLine) (known mid reached : ℕ) (old log new : List SplitEntry) (r : ReplyLine)
    → known ≤ mid → GoesOn maker_of s old log → AnswersLine g s line mid log r reached new → AnswersLine g s line known old r reached new
answers_later g s line known mid reached old log new r less goes a = record {
  before = a.before;
  after = a.after;
  answers = a.answers;
  begins = prefix_trans old log new goes.begins a.begins;
  into = a.into;
  no_earlier = omega (arith, less, a.no_earlier);
  no_later = a.no_later;
  within = a.within;
  own = λ w e at mine. elim (a.own w e at mine) [
    | inl there ↦ inl (goes.own w e there mine)
    | inr past ↦ inr past
  ];
}

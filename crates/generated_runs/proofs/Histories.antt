-- The entries of the history of a legal transcript stand for splits of its script, each for one of its own.
use Rattle.std.proofs.Common.{◌≡◌, ℕ, zero, suc, ◌+◌, ◌<◌, ◌≤◌, true, List, [], ◌∷◌, length, get_or, map, Contains, Some, slice_get, sym, ◌∙◌, ap, subst, arith}
use Rattle.std.specs.List.{IsDistinct}
use Rattle.std.specs.Set.{is_member}
use Rattle.std.proofs.lemmas.Bool.{false_from_ne_true, or_left, or_right}
use Rattle.std.proofs.lemmas.List.{get_or-map, length-map}
use Rattle.std.proofs.lemmas.Map.Keys.{IsDistinct-from_apart}
use Rattle.std.proofs.lemmas.Map.Made.{length-le_from_is_member}
use Rattle.std.proofs.lemmas.Map.Views.{Contains-from_any}
use Rattle.std.proofs.lemmas.Option.{get_or_from_slice_get, same_Some}
use Rattle.op_polynomials.specs.declared.entry.SplitEntry.{SplitEntry}
use Rattle.script_text.specs.Numbered.{NumberedLine}
use Rattle.script_text.specs.Valid.{ScriptText, command_count}
use Rattle.reply_text.specs.declared.limits.TheConstants.{MAX_VERSIONS}
use Rattle.reply_text.specs.declared.transcript.ReplyLine.{ReplyLine}
use Rattle.reply_text.specs.declared.transcript.Transcript.{Transcript}
use Rattle.session_core.specs.Demands.{is_pair, Has}
use Rattle.session_core.specs.Transcripts.{IsAnsweredBy, IsEntry, IsLegalTranscript, script_ground}
use Rattle.session_core.proofs.HistoryVersions.{taken}
use Rattle.session_core.proofs.PairLemmas.{is_pair-eq, is_pair-equivalence}
use Rattle.generated_runs.specs.Splits.{split_count}
use Rattle.generated_runs.specs.Unrefused.{AcceptsSplits}
use Rattle.generated_runs.proofs.LinesAnswered.{one_reply, reply_line, reply_of}
use Rattle.generated_runs.proofs.SplitPlaces.{distinct_places, has_place, length-places, places, split_in, splits_at_most}

-- the place of the split that an entry stands for
abbrev entry_place : SplitEntry → ℕ × ℕ
entry_place e = (e.session, e.command)

abbrev entry_places : List SplitEntry → List (ℕ × ℕ)
entry_places history = map entry_place history

-- the entry at a place of the history, and its own place in the script
record EntryThere (history : List SplitEntry) (w : ℕ) (d : ℕ × ℕ) : Type 0 where
  entry : SplitEntry
  at : slice_get history w ≡ Some entry
  is_place : get_or (entry_places history) w d ≡ entry_place entry

entry_there : (history : List SplitEntry) (w : ℕ) (d : ℕ × ℕ) → w < length (entry_places history) → EntryThere history w d
entry_there history w d within =
    let inside : w < length history = omega (arith, within, length-map history entry_place) in
    let (e, at, more) = taken history w inside in
    record { entry = e; at = at; is_place = get_or-map entry_place history w e d inside ∙ ap entry_place (get_or_from_slice_get history w e e at) }

-- an entry has its place among those of the history
has_entry : (history : List SplitEntry) (w : ℕ) (e : SplitEntry) → slice_get history w ≡ Some e → Has (entry_places history) (entry_place e)
has_entry [] w e at = absurd cc
has_entry (x ∷ history) zero e at =
    let same : entry_place x ≡ entry_place e = ap entry_place (same_Some x e at) in
    or_left (is_pair (entry_place e) (entry_place x)) (is_member is_pair (entry_places history) (entry_place e))
    (subst (λ q. is_pair (entry_place e) q ≡ true) (sym same) (is_pair-equivalence.refl (entry_place e)))
has_entry (x ∷ history) (suc w) e at =
    or_right (is_pair (entry_place e) (entry_place x)) (is_member is_pair (entry_places history) (entry_place e)) (has_entry history w e at)

module _ (script : ScriptText) (t : Transcript) (legal : IsLegalTranscript script t) where
  -- the split that an entry stands for
  record Origin (w : ℕ) (e : SplitEntry) : Type 0 where
    s : ℕ
    c : ℕ
    line : NumberedLine
    r : ReplyLine
    answered : IsAnsweredBy script t s c line r
    version : r.version ≡ w
    entry : IsEntry (script_ground script) (s + 1) line.text r e
    session_is : e.session ≡ s + 1
    command_is : e.command ≡ 1 + c

  origin : (w : ℕ) (e : SplitEntry) → slice_get t.history w ≡ Some e → Origin w e
  origin w e at =
      let (s, c, line, r, answered, version, entry) = legal.entries w e at in
      record {
        s = s;
        c = c;
        line = line;
        r = r;
        answered = answered;
        version = version;
        entry = entry;
        session_is = entry.session;
        command_is = entry.command ∙ (reply_line script t legal s c line r answered).numbered;
      }

  -- entries at two places stand for two splits
  places_differ : (i j : ℕ) (a b : SplitEntry) → slice_get t.history i ≡ Some a → slice_get t.history j ≡ Some b → i < j
      → entry_place a ≡ entry_place b → ⊥
  places_differ i j a b at there before same =
      let x = origin i a at in
      let y = origin j b there in
      let sessions : a.session ≡ b.session = ap (λ (q : ℕ × ℕ). q.0) same in
      let commands : a.command ≡ b.command = ap (λ (q : ℕ × ℕ). q.1) same in
      let session : x.s ≡ y.s = omega (arith, sessions, x.session_is, y.session_is) in
      let command : x.c ≡ y.c = omega (arith, commands, x.command_is, y.command_is) in
      let reply : x.r ≡ y.r = one_reply script t x.s y.s x.c y.c x.line y.line x.r y.r session command x.answered y.answered in
      let version : x.r.version ≡ y.r.version = ap (λ (r : ReplyLine). r.version) reply in
      omega (arith, before, version, x.version, y.version)

  -- so their places are distinct
  distinct_entries : IsDistinct is_pair (entry_places t.history)
  distinct_entries = IsDistinct-from_apart is_pair (entry_places t.history) (λ i j d before within.
      let x = entry_there t.history i d (omega (arith, before, within)) in
      let y = entry_there t.history j d within in
      false_from_ne_true (is_pair (get_or (entry_places t.history) i d) (get_or (entry_places t.history) j d)) (λ e.
      places_differ i j x.entry y.entry x.at y.at before
      (sym x.is_place ∙ is_pair-eq (get_or (entry_places t.history) i d) (get_or (entry_places t.history) j d) e ∙ y.is_place)))

  -- and those of splits
  entry_splits : (q : ℕ × ℕ) → Has (entry_places t.history) q → Has (places 1 script.sessions) q
  entry_splits q h =
      let (j, within, is) = contained in
      let x = entry_there t.history j q within in
      let o = origin j x.entry x.at in
      let there : Has (places 1 script.sessions) (1 + o.s, 1 + o.c) =
      has_place 1 o.s o.c script.sessions o.answered.lines o.line x.entry.op o.entry.coefficients o.answered.session o.answered.command o.entry.split
      in
      let session : 1 + o.s ≡ x.entry.session = omega (arith, o.session_is) in
      subst (Has (places 1 script.sessions)) (sym x.is_place ∙ is)
      (subst (λ m. Has (places 1 script.sessions) (x.entry.session, m)) (sym o.command_is)
      (subst (λ n. Has (places 1 script.sessions) (n, 1 + o.c)) session there))
    where
      contained : Contains (entry_places t.history) q
      contained = Contains-from_any is_pair-eq q (entry_places t.history) h

  -- so there are no more entries than splits
  pub short_history : length t.history ≤ split_count script.sessions
  short_history = omega (
    arith,
    length-le_from_is_member is_pair-equivalence (entry_places t.history) (places 1 script.sessions) distinct_entries entry_splits,
    length-map t.history entry_place,
    length-places 1 script.sessions,
  )

  -- an accepted split has its entry
  split_enters : AcceptsSplits script t → (q : ℕ × ℕ) → Has (places 1 script.sessions) q → Has (entry_places t.history) q
  split_enters accepts q h =
      let x = split_in 1 script.sessions q h in
      let (r, answered) = reply_of script t legal x.session x.split.place x.lines x.split.line x.lines_there x.split.command in
      let accepted = accepts x.session x.split.place x.split.line r x.split.op x.split.coefficients answered x.split.split in
      let e = legal.entered x.session x.split.place x.split.line r answered accepted in
      let number : e.entry.command ≡ 1 + x.split.place =
      e.is_entry.command ∙ (reply_line script t legal x.session x.split.place x.split.line r answered).numbered in
      let sessions : e.entry.session ≡ q.0 = omega (arith, e.is_entry.session, x.split.session_is) in
      let commands : e.entry.command ≡ q.1 = number ∙ sym x.split.number_is in
      let same : entry_place e.entry ≡ q = λ i. (sessions i, commands i) in
      subst (Has (entry_places t.history)) same (has_entry t.history r.version e.entry e.at_version)

  -- and there are as many entries as splits, where each is accepted
  pub full_count : AcceptsSplits script t → length t.history ≡ split_count script.sessions
  full_count accepts = omega (
    arith,
    short_history,
    length-le_from_is_member is_pair-equivalence (places 1 script.sessions) (entry_places t.history) (distinct_places 1 script.sessions)
        (split_enters accepts),
    length-map t.history entry_place,
    length-places 1 script.sessions,
  )

-- a script with few commands fills no history
pub room_left : (script : ScriptText) (t : Transcript) → IsLegalTranscript script t → command_count script.sessions < MAX_VERSIONS
    → length t.history < MAX_VERSIONS
room_left script t legal few = omega (arith, short_history script t legal, splits_at_most script.sessions, few)

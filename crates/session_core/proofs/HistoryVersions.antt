-- In a legal transcript each entry of the history is a step from the version before it, so each version is a splitting.
use Rattle.std.proofs.Common.{◌≡◌, inl, inr, ℕ, zero, suc, ◌+◌, ◌<◌, ◌≤◌, List, [], ◌∷◌, ◌++◌, length, map, take, Option, None, Some, slice_get, refl, sym, ◌∙◌, ap, subst, arith}
use Rattle.std.specs.List.{AllZip, enumerate_from}
use Rattle.std.proofs.lemmas.Option.{same_Some}
use Rattle.linear_algebra.specs.Integers.{residue_of}
use Rattle.field_table.specs.Table.{IsListed}
use Rattle.field_table.proofs.TableFacts.{listed_prime}
use Rattle.quotient_coords.specs.Quotient.{Ground, dimension}
use Rattle.op_polynomials.specs.declared.entry.SplitEntry.{SplitEntry}
use Rattle.op_polynomials.specs.declared.name.OpName.{OpName}
use Rattle.op_polynomials.specs.declared.name.OpName.TheVariants as ops
use Rattle.split_state.specs.Decomposition.{Decomposition, IsSplitting}
use Rattle.split_state.specs.Difference.{AgreesWithListed}
use Rattle.split_state.specs.Refinement.{Refines}
use Rattle.split_state.specs.Step.{IsStep}
use Rattle.split_state.specs.Versions.{IsEntryStep, IsOperatorMatrix, IsVersion}
use Rattle.split_state.proofs.Versions.{operator_matrix_once, version_last, version_more, version_once, version_sized, version_whole}
use Rattle.split_state.proofs.VersionSplittings.{agreeing_centralises, entry_refines, first_splitting, next_splitting}
use Rattle.script_text.specs.Commands.{command_of}
use Rattle.script_text.specs.Valid.{ScriptText}
use Rattle.reply_text.specs.declared.refusal.Refusal.{Refusal}
use Rattle.reply_text.specs.declared.reply.Reply.{Reply}
use Rattle.reply_text.specs.declared.transcript.ReplyLine.{ReplyLine}
use Rattle.reply_text.specs.declared.transcript.Transcript.{Transcript}
use Rattle.session_core.specs.Answers.{TellsSplit}
use Rattle.session_core.specs.Histories.{VersionsAreSplittings}
use Rattle.session_core.specs.Operators.{AnswersBy, Fails}
use Rattle.session_core.specs.Refusals.{line_refusal}
use Rattle.session_core.specs.Replies.{IsAccepted, IsAnswerTo, IsReply, UnlessRefused}
use Rattle.session_core.specs.Transcripts.{AreReplyLines, IsEntry, IsLegalTranscript, IsReplyLine, script_ground}
use Rattle.session_core.proofs.RunLemmas.{get-enumerate_from}
use Rattle.session_core.proofs.WholeSpaces.{some_whole}

-- an entry is a step from the version of those before it, by a matrix that agrees with the listed ones
record AcceptedStep (g : Ground) (history : List SplitEntry) (e : SplitEntry) : Type 0 where
  splitting : Decomposition
  version : IsVersion g history splitting
  columns : List (List ℕ)
  operator : IsOperatorMatrix g e.op columns
  agrees : AgreesWithListed splitting columns
  next : Decomposition
  step : IsStep splitting e.op columns e.poly next

-- an accepted split is no refusal
no_failure : (g : Ground) (op : OpName) (reply : Reply) → Fails g op reply → IsAccepted reply → ⊥
no_failure g (ops.T n) reply h accepted = subst IsAccepted h.told accepted
no_failure g ops.Star reply h accepted = h

unrefused : (o : Option Refusal) (A : Type 0) (reply : Reply) → UnlessRefused o A reply → IsAccepted reply → A
unrefused None A reply h accepted = h
unrefused (Some refusal) A reply h accepted = absurd (subst IsAccepted h accepted)

-- the reply of an accepted split tells of such a step
accepted_step : (g : Ground) (history : List SplitEntry) (s : ℕ) (text : List ℕ) (r : ReplyLine) (e : SplitEntry) → IsReply g history text r.reply
    → IsEntry g s text r e → AcceptedStep g history e
accepted_step g history s text r e h entry =
    by_answer (subst (λ reading. IsAnswerTo g (length history) h.splitting reading r.reply) entry.split
    (unrefused (line_refusal g (length history) (length h.splitting.parts) text)
    (IsAnswerTo g (length history) h.splitting (command_of text) r.reply) r.reply h.reply_at entry.accepted))
  where
    f : List ℕ
    f = map (residue_of g.characteristic) entry.coefficients

    by_answer : AnswersBy g e.op (TellsSplit (length history) h.splitting e.op f) r.reply → AcceptedStep g history e
    by_answer (inl fails) = absurd (no_failure g e.op r.reply fails entry.accepted)
    by_answer (inr acts) = elim acts.told [
      | inl commutator ↦ absurd (subst IsAccepted commutator.told entry.accepted)
      | inr next ↦ record {
        splitting = h.splitting;
        version = h.version;
        columns = acts.columns;
        operator = acts.matrix;
        agrees = next.is_next.agrees;
        next = next.next;
        step = subst (λ poly. IsStep h.splitting e.op acts.columns poly next.next) (sym entry.polynomial) next.is_next.step;
      }
    ]

-- what stands at one place of two lists
zip_at : {A B : Type 0} (R : A → B → Type 0) (xs : List A) (ys : List B) → AllZip R xs ys → (k : ℕ) (x : A) (y : B) → slice_get xs k ≡ Some x
    → slice_get ys k ≡ Some y → R x y
zip_at R [] ys h k x y at there = absurd cc
zip_at R (a ∷ xs) [] h k x y at there = absurd h
zip_at R (a ∷ xs) (b ∷ ys) h zero x y at there = subst (λ z. R z y) (same_Some a x at) (subst (R a) (same_Some b y there) h.0)
zip_at R (a ∷ xs) (b ∷ ys) h (suc k) x y at there = zip_at R xs ys h.1 k x y at there

-- one item more
pub taken : {A : Type 0} (xs : List A) (k : ℕ) → k < length xs → (x : A) × (slice_get xs k ≡ Some x) × (take (suc k) xs ≡ take k xs ++ x ∷ [])
taken [] k l = absurd (omega arith)
taken (y ∷ xs) zero l = (y, refl, refl)
taken {A} (y ∷ xs) (suc k) l = let t = taken xs k (omega arith) in (t.0, t.1, ap (λ (zs : List A). y ∷ zs) t.2)

-- so each entry of the history of a legal transcript is a step
entry_step : (script : ScriptText) (t : Transcript) → IsLegalTranscript script t → (w : ℕ) (e : SplitEntry) → slice_get t.history w ≡ Some e
    → AcceptedStep (script_ground script) (take w t.history) e
entry_step script t legal w e at =
    let g = script_ground script in
    let (s, c, line, r, answered, version, entry) = legal.entries w e at in
    let lines : AreReplyLines g t.history answered.lines answered.told =
    zip_at (AreReplyLines g t.history) script.sessions t.sessions legal.sessions s answered.lines answered.told answered.session
    answered.session_told in
    let told : IsReplyLine g t.history (1 + c, line) r =
    zip_at (IsReplyLine g t.history) (enumerate_from 1 answered.lines) answered.told lines c (1 + c, line) r
    (get-enumerate_from 1 answered.lines c line answered.command) answered.command_told in
    elim told.reply [
      | inl reply ↦ subst (λ n. AcceptedStep g (take n t.history) e) version
          (accepted_step g (take r.version t.history) (s + 1) line.text r e reply entry)
      | inr memory ↦ absurd (subst IsAccepted memory entry.accepted)
    ]

-- a step from a splitting makes one
step_splits : (g : Ground) → IsListed g.characteristic → (history : List SplitEntry) (e : SplitEntry) (s r : Decomposition)
    → AcceptedStep g history e → IsVersion g history s → IsEntryStep g s e r → IsSplitting s → IsSplitting r
step_splits g listed history e s r x version step splits =
    let same : x.splitting ≡ s = version_once g listed history x.splitting s x.version version in
    let matrix : x.columns ≡ step.matrix =
    operator_matrix_once g (listed_prime g.characteristic listed) e.op x.columns step.matrix x.operator step.operator in
    let agrees : AgreesWithListed s step.matrix =
    subst (AgreesWithListed s) matrix (subst (λ d. AgreesWithListed d x.columns) same x.agrees) in
    next_splitting g listed history e s r version splits step
    (agreeing_centralises s step.matrix splits (version_sized g history s e.op step.matrix version step.operator) agrees)

module _ (script : ScriptText) (t : Transcript) (listed : IsListed script.space.characteristic) (legal : IsLegalTranscript script t) where
  abbrev g : Ground
  g = script_ground script

  -- the first entries have a version
  some : (v : ℕ) → v ≤ length t.history → (s : Decomposition) × IsVersion g (take v t.history) s
  some zero l = let whole = some_whole g.characteristic (dimension g.level g.characteristic) listed in (whole.0, version_whole g whole.0 whole.1)
  some (suc v) l =
      let (e, at, more) = taken t.history v (omega arith) in
      let x = entry_step script t legal v e at in (
        x.next,
        subst (λ es. IsVersion g es x.next) (sym more)
            (version_more g (take v t.history) e x.splitting x.next x.version (record { matrix = x.columns; operator = x.operator; step = x.step })),
      )

  -- which is a splitting
  splitting : (v : ℕ) (s : Decomposition) → v ≤ length t.history → IsVersion g (take v t.history) s → IsSplitting s
  splitting zero s l version = first_splitting g listed s version
  splitting (suc v) r l version =
      let (e, at, more) = taken t.history v (omega arith) in
      let (s, before, step) = version_last g (take v t.history) e r (subst (λ es. IsVersion g es r) more version) in
      step_splits g listed (take v t.history) e s r (entry_step script t legal v e at) before step (splitting v s (omega arith) before)

  -- and refines that of one entry fewer
  refining : (v : ℕ) (s r : Decomposition) → v < length t.history → IsVersion g (take v t.history) s → IsVersion g (take (v + 1) t.history) r
      → Refines r s
  refining v s r l version after =
      let (e, at, more) = taken t.history v l in
      let next : v + 1 ≡ suc v = omega arith in
      let (x, before, step) =
      version_last g (take v t.history) e r (subst (λ es. IsVersion g es r) (ap (λ n. take n t.history) next ∙ more) after) in
      subst (Refines r) (version_once g listed (take v t.history) x s before version) (entry_refines g x e r step)

-- each version of the history of a legal transcript is a splitting
pub history_versions : (script : ScriptText) (t : Transcript) → IsListed script.space.characteristic → IsLegalTranscript script t
    → VersionsAreSplittings (script_ground script) t.history
history_versions script t listed legal = record {
  some = some script t listed legal;
  splitting = splitting script t listed legal;
  refines = refining script t listed legal;
}

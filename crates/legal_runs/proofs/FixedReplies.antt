-- What two legal transcripts of one script have in common.
use Rattle.std.proofs.Common.{◌≡◌, ◌≢◌, inl, inr, ℕ, ◌+◌, ◌⊎◌, List, [], ◌∷◌, length, take, All, Result, Ok, Err, refl, sym, ◌∙◌, ap}
use Rattle.std.proofs.Common.{subst, arith}
use Rattle.std.specs.List.{AllZip, enumerate_from}
use Rattle.std.proofs.lemmas.List.Elements.{All-head, All-tail}
use Rattle.field_table.specs.Table.{IsListed}
use Rattle.quotient_coords.specs.Quotient.{Ground}
use Rattle.op_polynomials.specs.declared.entry.SplitEntry.{SplitEntry}
use Rattle.split_state.specs.Decomposition.{Decomposition}
use Rattle.script_text.specs.declared.command.Command.{Command}
use Rattle.script_text.specs.declared.command.Command.TheVariants as commands
use Rattle.script_text.specs.declared.command_fault.CommandFault.{CommandFault}
use Rattle.script_text.specs.declared.command_fault.CommandFault.TheVariants as faults
use Rattle.script_text.specs.Commands.{command_of}
use Rattle.script_text.specs.Numbered.{NumberedLine}
use Rattle.reply_text.specs.declared.reply.Reply.{Reply}
use Rattle.reply_text.specs.declared.reply.Reply.TheVariants as replies
use Rattle.reply_text.specs.declared.transcript.ReplyLine.{ReplyLine}
use Rattle.session_core.specs.Refusals.{reading_refusal}
use Rattle.session_core.specs.Replies.{UnlessRefused, IsAnswerTo, IsReply}
use Rattle.session_core.specs.Transcripts.{AreReplyLines, IsReplyLine, script_ground}
use Rattle.session_core.proofs.AnswersOnce.{reply_once}
use Rattle.session_core.proofs.OneSession.{one_answers}
use Rattle.session_core.proofs.RunsOnce.{sessions_once}
use Rattle.generated_runs.proofs.LinesAnswered.{reply_line}
use Rattle.legal_runs.specs.Agreement.{AgreeUnlessMemory, StandsOnNoVersion, RepliesAreFixedByVersions}
use Rattle.legal_runs.specs.Agreement.{OtherRepliesAreFixed, OneSessionIsFixed, RepliesWithoutSplitsAreFixed}

-- two replies agree, or one of them is want of memory, where those that are none agree
unless_memory : (g : Ground) (past other : List SplitEntry) (text : List ℕ) (r q : ReplyLine)
    → (IsReply g past text r.reply → IsReply g other text q.reply → r.reply ≡ q.reply)
    → IsReply g past text r.reply ⊎ (r.reply ≡ replies.Memory) → IsReply g other text q.reply ⊎ (q.reply ≡ replies.Memory)
    → AgreeUnlessMemory r q
unless_memory g past other text r q once (inl h) (inl k) = inl (once h k)
unless_memory g past other text r q once (inl h) (inr memory) = inr (inr memory)
unless_memory g past other text r q once (inr memory) k = inr (inl memory)

-- a line has one reply after one history
pub fixed_by_versions : RepliesAreFixedByVersions
fixed_by_versions script t u listed legal other s c line r q h k same =
    let g = script_ground script in
    let past = take r.version t.history in
    unless_memory g past (take q.version u.history) line.text r q
    (λ a b. reply_once g past listed line.text r.reply q.reply a (subst (λ es. IsReply g es line.text q.reply) (sym same) b))
    (reply_line script t legal s c line r h).reply (reply_line script u other s c line q k).reply

-- ---- replies that stand on no version

-- what replies to a line there replies to it at any other version
at_any_version : (g : Ground) (v w : ℕ) (s z : Decomposition) (reading : Result Command CommandFault) (reply : Reply) → StandsOnNoVersion reading
    → UnlessRefused (reading_refusal g v (length s.parts) reading) (IsAnswerTo g v s reading reply) reply
    → UnlessRefused (reading_refusal g w (length z.parts) reading) (IsAnswerTo g w z reading reply) reply
at_any_version g v w s z (Err faults.OutOfMemory) reply none h = h
at_any_version g v w s z (Err (faults.Grammar token)) reply none h = h
at_any_version g v w s z (Err (faults.Limit what)) reply none h = h
at_any_version g v w s z (Ok (commands.Normal a b)) reply none h = h
at_any_version g v w s z (Ok commands.Basis) reply none h = h
at_any_version g v w s z (Ok (commands.Reduce terms)) reply none h = h
at_any_version g v w s z (Ok (commands.Certify terms)) reply none h = h
at_any_version g v w s z (Ok (commands.Image n terms)) reply none h = h
at_any_version g v w s z (Ok (commands.Star terms)) reply none h = h
at_any_version g v w s z (Ok (commands.Boundary terms)) reply none h = h
at_any_version g v w s z (Ok commands.Cusps) reply none h = h
at_any_version g v w s z (Ok (commands.Operator op)) reply none h = h
at_any_version g v w s z (Ok (commands.Apply op coords)) reply none h = h
at_any_version g v w s z (Ok (commands.Poly op coefficients coords)) reply none h = h
at_any_version g v w s z (Ok (commands.Split op coefficients)) reply none h = absurd none
at_any_version g v w s z (Ok commands.Show) reply none h = absurd none
at_any_version g v w s z (Ok (commands.Part number)) reply none h = absurd none
at_any_version g v w s z (Ok (commands.Chains n)) reply none h = h

-- so such a line has one reply after any histories
reply_without_version : (g : Ground) (past other : List SplitEntry) → IsListed g.characteristic → (text : List ℕ) (r q : Reply)
    → StandsOnNoVersion (command_of text) → IsReply g past text r → IsReply g other text q → r ≡ q
reply_without_version g past other listed text r q none h k = reply_once g past listed text r q h (record {
  splitting = h.splitting;
  version = h.version;
  reply_at = at_any_version g (length other) (length past) k.splitting h.splitting (command_of text) q none k.reply_at;
})

pub others_fixed : OtherRepliesAreFixed
others_fixed script t u listed legal other s c line r q h k none =
    let g = script_ground script in
    unless_memory g (take r.version t.history) (take q.version u.history) line.text r q
    (reply_without_version g (take r.version t.history) (take q.version u.history) listed line.text r.reply q.reply none)
    (reply_line script t legal s c line r h).reply (reply_line script u other s c line q k).reply

-- ---- all replies

pub one_session_fixed : OneSessionIsFixed
one_session_fixed script t u listed one legal other some more =
    sessions_once listed (one_answers script t one legal) (one_answers script u one other) some more

-- lines with the same parts are the same
same_line : (r q : ReplyLine) → r.number ≡ q.number → r.version ≡ q.version → r.reply ≡ q.reply → r ≡ q
same_line r q number version reply = λ i. record { number = number i; version = version i; reply = reply i }

module _ (g : Ground) (listed : IsListed g.characteristic) where
  -- without an entry a line has one reply line
  line_fixed : (line : ℕ × NumberedLine) (r q : ReplyLine) → IsReplyLine g [] line r → IsReplyLine g [] line q → r.reply ≢ replies.Memory
      → q.reply ≢ replies.Memory → r ≡ q
  line_fixed line r q h k some more =
      let version : r.version ≡ q.version = omega (arith, h.version, k.version) in
      same_line r q (h.numbered ∙ sym k.numbered) version (by h.reply k.reply (ap (λ v. take v []) version))
    where
      by : IsReply g (take r.version []) line.1.text r.reply ⊎ (r.reply ≡ replies.Memory)
          → IsReply g (take q.version []) line.1.text q.reply ⊎ (q.reply ≡ replies.Memory)
          → ◌≡◌ {A = List SplitEntry} (take r.version []) (take q.version []) → r.reply ≡ q.reply
      by (inl a) (inl b) same =
          reply_once g (take r.version []) listed line.1.text r.reply q.reply a (subst (λ es. IsReply g es line.1.text q.reply) (sym same) b)
      by (inl a) (inr memory) same = absurd (more memory)
      by (inr memory) b same = absurd (some memory)

  lines_fixed : (n : ℕ) (lines : List NumberedLine) (told again : List ReplyLine) → AllZip (IsReplyLine g []) (enumerate_from n lines) told
      → AllZip (IsReplyLine g []) (enumerate_from n lines) again → All (λ r. r.reply ≢ replies.Memory) told
      → All (λ r. r.reply ≢ replies.Memory) again → told ≡ again
  lines_fixed n [] [] [] h k some more = refl
  lines_fixed n [] [] (q ∷ again) h k some more = absurd k
  lines_fixed n [] (r ∷ told) again h k some more = absurd h
  lines_fixed n (line ∷ lines) [] again h k some more = absurd h
  lines_fixed n (line ∷ lines) (r ∷ told) [] h k some more = absurd k
  lines_fixed n (line ∷ lines) (r ∷ told) (q ∷ again) h k some more =
      let first : r ≡ q = line_fixed (n, line) r q h.0 k.0 (All-head (λ (x : ReplyLine). x.reply ≢ replies.Memory) r told some)
      (All-head (λ (x : ReplyLine). x.reply ≢ replies.Memory) q again more) in
      let rest : told ≡ again = lines_fixed (n + 1) lines told again h.1 k.1 (All-tail (λ (x : ReplyLine). x.reply ≢ replies.Memory) r told some)
      (All-tail (λ (x : ReplyLine). x.reply ≢ replies.Memory) q again more) in
      λ i. first i ∷ rest i

  sessions_fixed : (sessions : List (List NumberedLine)) (all again : List (List ReplyLine)) → AllZip (AreReplyLines g []) sessions all
      → AllZip (AreReplyLines g []) sessions again → All (λ told. All (λ r. r.reply ≢ replies.Memory) told) all
      → All (λ told. All (λ r. r.reply ≢ replies.Memory) told) again → all ≡ again
  sessions_fixed [] [] [] h k some more = refl
  sessions_fixed [] [] (retold ∷ again) h k some more = absurd k
  sessions_fixed [] (told ∷ all) again h k some more = absurd h
  sessions_fixed (lines ∷ sessions) [] again h k some more = absurd h
  sessions_fixed (lines ∷ sessions) (told ∷ all) [] h k some more = absurd k
  sessions_fixed (lines ∷ sessions) (told ∷ all) (retold ∷ again) h k some more =
      let first : told ≡ retold = lines_fixed 1 lines told retold h.0 k.0
      (All-head (λ (x : List ReplyLine). All (λ (r : ReplyLine). r.reply ≢ replies.Memory) x) told all some)
      (All-head (λ (x : List ReplyLine). All (λ (r : ReplyLine). r.reply ≢ replies.Memory) x) retold again more) in
      let rest : all ≡ again = sessions_fixed sessions all again h.1 k.1
      (All-tail (λ (x : List ReplyLine). All (λ (r : ReplyLine). r.reply ≢ replies.Memory) x) told all some)
      (All-tail (λ (x : List ReplyLine). All (λ (r : ReplyLine). r.reply ≢ replies.Memory) x) retold again more) in
      λ i. first i ∷ rest i

pub without_splits_fixed : RepliesWithoutSplitsAreFixed
without_splits_fixed script t u listed legal other some more none empty =
    let g = script_ground script in
    sessions_fixed g listed script.sessions t.sessions u.sessions
    (subst (λ es. AllZip (AreReplyLines g es) script.sessions t.sessions) none legal.sessions)
    (subst (λ es. AllZip (AreReplyLines g es) script.sessions u.sessions) empty other.sessions) some more

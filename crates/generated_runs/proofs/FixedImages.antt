-- A line that nothing refuses is answered at each version, and the answer to an image is one at all versions.
use Rattle.std.proofs.Common.{◌≡◌, ◌≢◌, ◌⊎◌, inl, inr, ℕ, ◌+◌, ◌<◌, List, length, take, All, Ok, sym, ◌∙◌, ap, subst, arith, length-take-le}
use Rattle.field_table.specs.Table.{IsListed}
use Rattle.field_table.proofs.TableFacts.{listed_prime}
use Rattle.linear_algebra.specs.Prime.{IsPrime}
use Rattle.linear_algebra.specs.Vector.{Vector}
use Rattle.hecke_columns.specs.Hecke.{merel_sum}
use Rattle.quotient_coords.specs.Quotient.{Ground}
use Rattle.quotient_coords.proofs.Unique.{coordinates_same}
use Rattle.op_polynomials.specs.declared.entry.SplitEntry.{SplitEntry}
use Rattle.split_state.specs.Decomposition.{Decomposition}
use Rattle.split_state.specs.Versions.{IsVersion}
use Rattle.script_text.specs.declared.command.Command.TheVariants as commands
use Rattle.script_text.specs.declared.term.Term.{Term}
use Rattle.script_text.specs.Commands.{command_of}
use Rattle.script_text.specs.Numbered.{NumberedLine}
use Rattle.script_text.specs.Valid.{ScriptText}
use Rattle.reply_text.specs.declared.limits.TheConstants.{MAX_VERSIONS}
use Rattle.reply_text.specs.declared.reply.Reply.{Reply}
use Rattle.reply_text.specs.declared.reply.Reply.TheVariants as replies
use Rattle.reply_text.specs.declared.transcript.ReplyLine.{ReplyLine}
use Rattle.reply_text.specs.declared.transcript.Transcript.{Transcript}
use Rattle.session_core.specs.Answers.{TellsCoordinates}
use Rattle.session_core.specs.Replies.{IsAnswerTo, IsReply, UnlessRefused}
use Rattle.session_core.specs.Terms.{vector_of}
use Rattle.session_core.specs.Transcripts.{IsAnsweredBy, IsLegalTranscript, IsReplyLine, script_ground}
use Rattle.generated_runs.specs.Unrefused.{Fits, IsUnrefused}
use Rattle.generated_runs.proofs.Histories.{room_left}
use Rattle.generated_runs.proofs.LinesAnswered.{all_there, reply_line}

-- the answer at a version that a reply tells
pub record AnsweredAt (g : Ground) (history : List SplitEntry) (text : List ℕ) (reply : Reply) : Type 0 where
  pub splitting : Decomposition
  pub version : IsVersion g history splitting
  pub answer : IsAnswerTo g (length history) splitting (command_of text) reply

-- a reply tells one, where nothing refuses the line
answered_at : (g : Ground) (history : List SplitEntry) (text : List ℕ) (reply : Reply) → IsUnrefused g text → length history < MAX_VERSIONS
    → IsReply g history text reply → AnsweredAt g history text reply
answered_at g history text reply unrefused few h = record {
  splitting = h.splitting;
  version = h.version;
  answer = subst (λ o. UnlessRefused o (IsAnswerTo g (length history) h.splitting (command_of text) reply) reply)
      (unrefused (length history) (length h.splitting.parts) few) h.reply_at;
}

-- so each line of a script that fits is answered, but for want of memory
pub line_answered : (script : ScriptText) (t : Transcript) → Fits script → IsLegalTranscript script t
    → (s c : ℕ) (line : NumberedLine) (r : ReplyLine) → IsAnsweredBy script t s c line r → r.reply ≢ replies.Memory
    → AnsweredAt (script_ground script) (take r.version t.history) line.text r.reply
line_answered script t fits legal s c line r h some = by_reply told.reply
  where
    told : IsReplyLine (script_ground script) t.history (1 + c, line) r
    told = reply_line script t legal s c line r h

    room : length t.history < MAX_VERSIONS
    room = room_left script t legal fits.few

    few : length (take r.version t.history) < MAX_VERSIONS
    few = omega (arith, room, told.version, length-take-le r.version t.history told.version)

    unrefused : IsUnrefused (script_ground script) line.text
    unrefused =
        all_there (λ (l : NumberedLine). IsUnrefused (script_ground script) l.text) h.lines c line
        (all_there (All (λ (l : NumberedLine). IsUnrefused (script_ground script) l.text)) script.sessions s h.lines fits.unrefused
        h.session) h.command

    by_reply : IsReply (script_ground script) (take r.version t.history) line.text r.reply ⊎ (r.reply ≡ replies.Memory)
        → AnsweredAt (script_ground script) (take r.version t.history) line.text r.reply
    by_reply (inl reply) = answered_at (script_ground script) (take r.version t.history) line.text r.reply unrefused few reply
    by_reply (inr memory) = absurd (some memory)

-- coordinates are told in one way
told_once : (g : Ground) → IsPrime g.characteristic → (x : Vector g.characteristic) (r q : Reply) → TellsCoordinates g x r → TellsCoordinates g x q
    → r ≡ q
told_once g prime x r q h k = h.1 ∙ ap replies.Coords (coordinates_same prime g.level x h.0 k.0 h.2 k.2) ∙ sym k.1

-- what is told of an image
image_told : (g : Ground) (history : List SplitEntry) (text : List ℕ) (reply : Reply) (n : ℕ) (terms : List Term)
    → command_of text ≡ Ok (commands.Image n terms) → AnsweredAt g history text reply
    → TellsCoordinates g (merel_sum g.level n (vector_of g terms)) reply
image_told g history text reply n terms reads h =
    subst (λ reading. IsAnswerTo g (length history) h.splitting reading reply) reads h.answer

-- so legal transcripts tell one image
pub image_fixed : (script : ScriptText) (t u : Transcript) → IsListed script.space.characteristic → Fits script → IsLegalTranscript script t
    → IsLegalTranscript script u → (s c : ℕ) (line : NumberedLine) (r q : ReplyLine) (n : ℕ) (terms : List Term) → IsAnsweredBy script t s c line r
    → IsAnsweredBy script u s c line q → command_of line.text ≡ Ok (commands.Image n terms) → r.reply ≢ replies.Memory → q.reply ≢ replies.Memory
    → r.reply ≡ q.reply
image_fixed script t u listed fits legal other s c line r q n terms h k reads some more =
    let g = script_ground script in
    told_once g (listed_prime g.characteristic listed) (merel_sum g.level n (vector_of g terms)) r.reply q.reply
    (image_told g (take r.version t.history) line.text r.reply n terms reads (line_answered script t fits legal s c line r h some))
    (image_told g (take q.version u.history) line.text q.reply n terms reads (line_answered script u fits other s c line q k more))

-- Replies that refuse an operator: for a relation that it does not keep, or for an operator that it does not commute with.
--   RefusesOperator reply       the reply is `err relation` or `err commutator`
--   OperatorsAreNeverRefused    no reply of a legal transcript does: T_n is looked at for n coprime to the level alone, and keeps relations
--                               there (Merel, Universal Fourier expansions of modular forms, Theorem 2), and operators commute
use Rattle.std.specs.Prelude.{All}
use Rattle.field_table.specs.Table.{IsListed}
use Rattle.script_text.specs.Valid.{ScriptText}
use Rattle.reply_text.specs.declared.refusal.Refusal.TheVariants as refusals
use Rattle.reply_text.specs.declared.reply.Reply.{Reply}
use Rattle.reply_text.specs.declared.reply.Reply.TheVariants as replies
use Rattle.reply_text.specs.declared.transcript.Transcript.{Transcript}
use Rattle.session_core.specs.Transcripts.{IsLegalTranscript}

abbrev pub RefusesOperator : Reply → Type 0
RefusesOperator (replies.Refused (refusals.Relation number coords)) = Unit {0}
RefusesOperator (replies.Refused (refusals.Commutator other row column left right)) = Unit {0}
RefusesOperator reply = ⊥

abbrev pub OperatorsAreNeverRefused : Type 0
OperatorsAreNeverRefused = (script : ScriptText) (t : Transcript) → IsListed script.space.characteristic → IsLegalTranscript script t
    → All (λ told. All (λ r. RefusesOperator r.reply → ⊥) told) t.sessions

use Rattle.std.proofs.Common.{◌≡◌, ◌≤◌, ℕ, List, [], length, sym, ◌∙◌, ap, subst}
use Rattle.p1_normal.specs.Points.{symbols}
use Rattle.quotient_coords.specs.Quotient.{Ground}
use Rattle.op_polynomials.specs.declared.entry.SplitEntry.{SplitEntry}
use Rattle.script_text.specs.declared.space.SpaceLine.{SpaceLine}
use Rattle.script_text.specs.Numbered.{NumberedLine}
use Rattle.reply_text.specs.declared.limits.TheConstants.{MAX_VERSIONS}
use Rattle.field_table.specs.Table.{IsListed}
use Rattle.reply_text.specs.declared.transcript.Transcript.{Transcript}
use Rattle.session_core.specs.SoloRuns.{AnswersSessions, IsSoloRun}
use Rattle.session_core.proofs.HistoryVersions.{history_versions}
use Rattle.session_core.proofs.LegalRuns.{solo_legal}
use Rattle.session_core.specs.Transcripts.{script_ground}
use Rattle.session_core.proofs.RunSteps.{ServesAll, columns_of_table}
use Rattle.host_workers.proofs.transcript.transcript_of.Goals as goal

pub returns : goal.returns
returns c =
    let at : c.in_ok-host.host.ground ≡ script_ground c.args.script.now = c.in_ok-host.ensures.ground ∙ c.in_ok-space.ensures in
    let level : c.level.result.now ≡ c.args.script.now.space.modulus = c.level.ensures ∙ ap (λ (g : Ground). g.level) c.in_ok-space.ensures in
    let entries : c.of.result ≡ c.script_replies.new.host.history = c.of.ensures ∙ c.in_ok-history.ensures.items ∙ c.history.ensures.history in
    let answers : AnswersSessions (script_ground c.args.script.now) 1 [] c.args.script.now.sessions c.in_ok-sessions.sessions c.of.result =
    subst (λ (es : List SplitEntry). AnswersSessions (script_ground c.args.script.now) 1 [] c.args.script.now.sessions
    c.in_ok-sessions.sessions es) (sym entries)
    (subst (λ (es : List SplitEntry). AnswersSessions (script_ground c.args.script.now) 1 es c.args.script.now.sessions
    c.in_ok-sessions.sessions c.script_replies.new.host.history) c.in_ok-host.ensures.history
    (subst (λ (ss : List (List NumberedLine)). AnswersSessions (script_ground c.args.script.now) 1 c.in_ok-host.host.history ss
    c.in_ok-sessions.sessions c.script_replies.new.host.history) c.sessions-2.ensures.value
    (subst (λ (g : Ground). AnswersSessions g 1 c.in_ok-host.host.history c.sessions-2.result.now c.in_ok-sessions.sessions
    c.script_replies.new.host.history) at c.in_ok-sessions.ensures.answers))) in
    let served : ServesAll c.in_ok-host.host.ground c.args.script.now.sessions c.in_ok-sessions.sessions c.in_ok-host.host.pairs
    c.script_replies.new.host.pairs =
    subst (λ (ss : List (List NumberedLine)). ServesAll c.in_ok-host.host.ground ss c.in_ok-sessions.sessions c.in_ok-host.host.pairs
    c.script_replies.new.host.pairs) c.sessions-2.ensures.value
    (record { adds = c.in_ok-sessions.ensures.adds; held = c.in_ok-sessions.ensures.held }) in
    let listed : IsListed c.args.script.now.space.characteristic =
    subst (λ (s : SpaceLine). IsListed s.characteristic) c.space-line.ensures.value c.space-line.ensures.is_space.listed in
    let made : Transcript = record {
      modulus = c.space-line.result.modulus;
      characteristic = c.space-line.result.characteristic;
      symbols = c.count-symbols.result;
      sessions = c.in_ok-sessions.sessions;
      history = c.of.result;
      columns = c.columns.result;
    } in
    let run : IsSoloRun c.args.script.now made = record {
      modulus = ap (λ (s : SpaceLine). s.modulus) c.space-line.ensures.value;
      characteristic = ap (λ (s : SpaceLine). s.characteristic) c.space-line.ensures.value;
      symbol_count = c.count-symbols.ensures.count ∙ ap (λ (N : ℕ). length (symbols N)) level;
      few = subst (λ (es : List SplitEntry). length es ≤ MAX_VERSIONS) (sym (c.of.ensures ∙ c.in_ok-history.ensures.items)) c.history.ensures.few;
      answers = answers;
      columns = columns_of_table c.args.script.now _ c.in_ok-host.host.ground c.in_ok-host.host.pairs c.script_replies.new.host.pairs at
          c.in_ok-host.ensures.none c.columns.ensures.distinct c.columns.ensures.count served;
    } in
    record { run = run; versions = history_versions c.args.script.now made listed (solo_legal c.args.script.now made run).legal }

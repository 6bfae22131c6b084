use Rattle.std.proofs.Common.{◌≡◌, ◌≤◌, ℕ, List, length, sym, ◌∙◌, ap, subst}
use Rattle.std.specs.Prelude.{slice_get, Some}
use Rattle.std.specs.List.{AllZip, enumerate_from}
use Rattle.p1_normal.specs.Points.{symbols}
use Rattle.quotient_coords.specs.Quotient.{Ground}
use Rattle.op_polynomials.specs.declared.entry.SplitEntry.{SplitEntry}
use Rattle.script_text.specs.declared.space.SpaceLine.{SpaceLine}
use Rattle.script_text.specs.Numbered.{NumberedLine}
use Rattle.reply_text.specs.declared.limits.TheConstants.{MAX_VERSIONS}
use Rattle.field_table.specs.Table.{IsListed}
use Rattle.reply_text.specs.declared.transcript.Transcript.{Transcript}
use Rattle.session_core.specs.Transcripts.{IsLegalRun, script_ground}
use Rattle.session_core.proofs.HistoryVersions.{history_versions}
use Rattle.host_workers.specs.Workers.{IsWork}
use Rattle.host_workers.proofs.SharedRuns.{shared_legal}
use Rattle.host_workers.proofs.host.run_host.Goals as goal

pub returns : goal.returns
returns g c =
    let shared = c.in_ok-shared.shared in
    let is = c.in_ok-shared.ensures in
    let level : c.level.result.now ≡ c.args.script.now.space.modulus = c.level.ensures ∙ ap (λ (g : Ground). g.level) c.in_ok-space.ensures in
    let entries : c.of.result ≡ shared.versions.entries = c.of.ensures ∙ c.in_ok-history.ensures.items ∙ c.entries.ensures.entries in
    let listed : IsListed c.args.script.now.space.characteristic =
    subst (λ (s : SpaceLine). IsListed s.characteristic) c.space-line.ensures.value c.space-line.ensures.is_space.listed in
    let made : Transcript = record {
      modulus = c.space-line.result.modulus;
      characteristic = c.space-line.result.characteristic;
      symbols = c.count-symbols.result;
      sessions = shared.replies;
      history = c.of.result;
      columns = c.publication_count-columns.result;
    } in
    let run : IsLegalRun c.args.script.now made = shared_legal c.args.script.now made shared.flights.events (record {
      modulus = ap (λ (s : SpaceLine). s.modulus) c.space-line.ensures.value;
      characteristic = ap (λ (s : SpaceLine). s.characteristic) c.space-line.ensures.value;
      symbol_count = c.count-symbols.ensures.count ∙ ap (λ (N : ℕ). length (symbols N)) level;
      few = subst (λ (es : List SplitEntry). length es ≤ MAX_VERSIONS) (sym entries) c.entries.ensures.few;
      works = subst (λ (es : List SplitEntry). AllZip (λ (work : ℕ × List NumberedLine) told. IsWork (script_ground c.args.script.now) work.0 work.1 told
          es shared.flights.events) (enumerate_from 1 c.args.script.now.sessions) shared.replies) (sym entries) is.works;
      entry_makers = subst (λ (es : List SplitEntry). (w : ℕ) (e : SplitEntry) → slice_get es w ≡ Some e
          → (1 ≤ e.session) × (e.session ≤ length c.args.script.now.sessions)) (sym entries) is.entry_makers;
      event_makers = is.event_makers;
      legal = c.publication_count-columns.ensures.legal;
      counted = c.publication_count-columns.ensures.count;
    }) in
    record { run = run; versions = history_versions c.args.script.now made listed run.legal }

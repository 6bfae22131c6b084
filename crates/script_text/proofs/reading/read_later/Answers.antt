use Rattle.std.proofs.Common.{◌≡◌, ◌<◌, ◌+◌, ◌++◌, ◌∷◌, [], ◌∙◌, sym, ap, refl, ℕ, List, true, false, Ok, length, rules, arith}
use Rattle.text_lines.specs.Lines.{tokens}
use Rattle.script_text.specs.declared.limits.TheConstants.{MAX_SESSIONS}
use Rattle.script_text.specs.declared.reading.Begun.{Begun}
use Rattle.script_text.specs.Numbered.{NumberedLine}
use Rattle.script_text.specs.Scripts.{begins_session, is_session}
use Rattle.script_text.specs.Reading.{with_line}
use Rattle.script_text.proofs.ReadingLemmas.{later_cause-begun, cause_after-begun, begun-session, begun-line}
use Rattle.script_text.proofs.reading.read_later.Goals as goal

pub returns-in_ok-push-in-Ok-true : goal.returns-in_ok-push-in-Ok-true
returns-in_ok-push-in-Ok-true c = λ before is.
    let line : NumberedLine = record { line = c.args.line; text = c.args.text.now } in
    let new : Begun = record { space = c.args.begun.space; sessions = c.push.new.self; commands = c.args.begun.commands } in
    let counted : c.len.result ≡ length c.args.begun.sessions.items = search rules in
    let none = later_cause-begun c.args.begun c.len.result (tokens c.args.text.now) _ counted c.requires.split c.in-Ok-true.ensures.read.0 in
    let begins : is_session line ≡ true = ap begins_session c.requires.split ∙ sym c.in-Ok-true.ensures.read.1 ∙ c.in-Ok-true.field-0-test in
    let few : length c.args.begun.sessions.items < MAX_SESSIONS = omega (arith, c.in-Ok-true.ensures.begins (ap Ok c.in-Ok-true.field-0-test)) in
    let sessions : c.push.new.self.items ≡ c.args.begun.sessions.items ++ [] ∷ [] =
    (c.in_ok-push-in-Ok-true.ensures {u = tt}).items ∙ ap (λ s. c.args.begun.sessions.items ++ s ∷ []) c.new.ensures in (
      cause_after-begun c.args.begun before line c.requires.plain is ∙ none,
      begun-session c.args.begun new before line is begins few refl sessions refl,
    )

pub returns-in_ok-add_command-in-Ok-false : goal.returns-in_ok-add_command-in-Ok-false
returns-in_ok-add_command-in-Ok-false c = λ before is.
    let line : NumberedLine = record { line = c.args.line; text = c.args.text.now } in
    let new : Begun = record { space = c.args.begun.space; sessions = c.add_command.new.sessions; commands = c.args.begun.commands + 1 } in
    let counted : c.len.result ≡ length c.args.begun.sessions.items = search rules in
    let none = later_cause-begun c.args.begun c.len.result (tokens c.args.text.now) _ counted c.requires.split c.in-Ok-false.ensures.read.0 in
    let begins : is_session line ≡ false = ap begins_session c.requires.split ∙ sym c.in-Ok-false.ensures.read.1 ∙ c.in-Ok-false.field-0-test in
    let room = c.in-Ok-false.ensures.command (ap Ok c.in-Ok-false.field-0-test) in
    let some : 0 < length c.args.begun.sessions.items = omega (arith, room.0) in
    let with_text = λ (text : List ℕ). let l : NumberedLine = record { line = c.args.line; text = text } in with_line c.args.begun.sessions.items l in
    let sessions : c.add_command.new.sessions.items ≡ with_line c.args.begun.sessions.items line =
    c.in_ok-add_command-in-Ok-false.ensures {u = tt} ∙ ap with_text ((c.in_ok-text-in-Ok-false.ensures {u = tt}).items) in (
      cause_after-begun c.args.begun before line c.requires.plain is ∙ none,
      begun-line c.args.begun new before line is begins some room.1 refl sessions refl,
    )

use Rattle.std.proofs.Common.{◌≡◌, ◌∷◌, [], sym, ap, subst, ◌∙◌, Ok, Err}
use Rattle.std.proofs.lemmas.Result.{err_from_is_err_and}
use Rattle.text_lines.specs.Lines.{tokens}
use Rattle.script_text.specs.Numbered.{NumberedLine}
use Rattle.script_text.specs.Commands.{AnswersCommand, IsWithin}
use Rattle.script_text.specs.Walk.{given}
use Rattle.script_text.proofs.FormLemmas.{command_of-tokens, empty-line, unknown-word, refused, past_limit, accepted}
use Rattle.script_text.proofs.WithinLemmas.{IsWithin-command}
use Rattle.script_text.proofs.command.parse_command.Goals as goal

pub returns-in_default : goal.returns-in_default
returns-in_default c =
    let same : c.as_slice-text.result.now ≡ c.args.line.now.text =
    c.as_slice-text.ensures.value ∙ ap (λ (l : NumberedLine). l.text) c.line.view_is in
    record {
      read = command_of-tokens c.args.line.now.text c.as_slice-text.result.now [] same (c.in_default.ensures {u = tt}).token ∙ empty-line;
      within = tt;
    }

pub returns-in_default-word_of : goal.returns-in_default-word_of
returns-in_default-word_of c =
    let same : c.as_slice-text.result.now ≡ c.args.line.now.text =
    c.as_slice-text.ensures.value ∙ ap (λ (l : NumberedLine). l.text) c.line.view_is in
    record {
      read = command_of-tokens c.args.line.now.text c.as_slice-text.result.now (c.in-Some.first.now ∷ tokens c.in-Some.rest.now) same
          (c.in-Some.ensures {u = tt}).token
          ∙ unknown-word c.in-Some.first.now (tokens c.in-Some.rest.now) (c.in_default-word_of.ensures {u = tt});
      within = tt;
    }

pub returns-in_err-fields : goal.returns-in_err-fields
returns-in_err-fields c =
    let same : c.as_slice-text.result.now ≡ c.args.line.now.text =
    c.as_slice-text.ensures.value ∙ ap (λ (l : NumberedLine). l.text) c.line.view_is in
    let read = command_of-tokens c.args.line.now.text c.as_slice-text.result.now (c.in-Some.first.now ∷ tokens c.in-Some.rest.now) same
    (c.in-Some.ensures {u = tt}).token in
    let p = err_from_is_err_and c.from_residual.result c.from_residual.ensures.1 in
    record {
      read = rw (p.1, p.2) (subst (λ r. AnswersCommand (Err c.in_err-fields.field-0.0) r) (sym read)
          (refused c.in-Some-word_of.word c.in-Some.first.now (tokens c.in-Some.rest.now) c.in_err-fields.field-0.0
          (c.in-Some-word_of.ensures {u = tt}) (c.in_err-fields.ensures.read)));
      within = rw p.1 tt;
    }

pub returns-in-Some-broken_limit : goal.returns-in-Some-broken_limit
returns-in-Some-broken_limit c =
    let same : c.as_slice-text.result.now ≡ c.args.line.now.text =
    c.as_slice-text.ensures.value ∙ ap (λ (l : NumberedLine). l.text) c.line.view_is in
    record {
      read = command_of-tokens c.args.line.now.text c.as_slice-text.result.now (c.in-Some.first.now ∷ tokens c.in-Some.rest.now) same
          (c.in-Some.ensures {u = tt}).token
          ∙ past_limit c.in-Some-word_of.word c.in-Some.first.now (tokens c.in-Some.rest.now) (given c.in_ok-fields.fields)
          c.in-Some-broken_limit.what
          (c.in-Some-word_of.ensures {u = tt}) (c.in_ok-fields.ensures.read) (c.in-Some-broken_limit.ensures {u = tt});
      within = tt;
    }

pub returns : goal.returns
returns c =
    let same : c.as_slice-text.result.now ≡ c.args.line.now.text =
    c.as_slice-text.ensures.value ∙ ap (λ (l : NumberedLine). l.text) c.line.view_is in
    record {
      read = command_of-tokens c.args.line.now.text c.as_slice-text.result.now (c.in-Some.first.now ∷ tokens c.in-Some.rest.now) same
          (c.in-Some.ensures {u = tt}).token
          ∙ accepted c.in-Some-word_of.word c.in-Some.first.now (tokens c.in-Some.rest.now) (given c.in_ok-fields.fields)
          (c.in-Some-word_of.ensures {u = tt}) (c.in_ok-fields.ensures.read) (c.in_default-broken_limit.ensures {u = tt})
          ∙ ap (λ x. Ok x) (sym c.command_from.ensures);
      within = subst IsWithin (sym c.command_from.ensures)
          (IsWithin-command c.in-Some-word_of.word (tokens c.in-Some.rest.now) (given c.in_ok-fields.fields)
          (c.in_ok-fields.ensures.read) (c.in_ok-fields.ensures.few) (sym (c.in_default-broken_limit.ensures {u = tt})));
    }

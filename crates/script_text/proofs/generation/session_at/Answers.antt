use Rattle.std.proofs.Common.{◌+◌, ◌∙◌, List, ap, refl, subst, sym}
use Rattle.script_text.specs.Numbered.{NumberedLine}
use Rattle.script_text.specs.Draws.{drawn_text}
use Rattle.script_text.proofs.GenerationLemmas.{HasCommands, no_command, one_command}
use Rattle.script_text.proofs.generation.session_at.Goals as goal

pub loop-place-init : goal.loop-place-init
loop-place-init c =
    let level = c.args.draws.now.level in
    let start = c.args.draws.now.state in record {
      level = refl;
      made = subst (λ (none : List NumberedLine). HasCommands level start c.args.first 0 none start) (sym c.new-session.ensures)
          (no_command level start c.args.first);
    }

pub loop-place-preserved : goal.loop-place-preserved
loop-place-preserved c = record {
  level = c.next_command.ensures.level ∙ c.loop-place.invariant.level;
  made = one_command c.args.draws.now.level c.loop-place.draws.level c.args.draws.now.state c.args.first c.loop-place.place
      (c.args.first + c.loop-place.place) c.next_command.new.self.state c.loop-place.session c.push.new.self c.loop-place.draws.state
      c.in_ok-text.text.items c.loop-place.invariant.made c.loop-place.invariant.level
      (c.in_ok-text.ensures.text ∙ ap drawn_text c.next_command.ensures.value) c.next_command.ensures.state refl (c.in_ok-push.ensures {u = tt});
}

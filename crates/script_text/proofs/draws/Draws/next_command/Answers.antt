use Rattle.std.proofs.Common.{◌∙◌, ap, ℕ}
use Rattle.script_text.specs.declared.drawn.DrawnCommand.{DrawnCommand}
use Rattle.script_text.proofs.DrawLemmas.{drawn_command-is}
use Rattle.script_text.proofs.draws.Draws.next_command.Goals as goal

pub returns-clause-value : goal.returns-clause-value
returns-clause-value c =
    c.command_of_kind.ensures.value ∙ ap (λ (drawn : DrawnCommand × ℕ). drawn.0)
    (drawn_command-is c.args.self.now.level c.args.self.now.state c.pick-kind.result c.pick-kind.new.self.level c.pick-kind.new.self.state
    c.pick-kind.ensures.value c.pick-kind.ensures.level c.pick-kind.ensures.state)

pub returns-clause-state : goal.returns-clause-state
returns-clause-state c =
    c.command_of_kind.ensures.state ∙ ap (λ (drawn : DrawnCommand × ℕ). drawn.1)
    (drawn_command-is c.args.self.now.level c.args.self.now.state c.pick-kind.result c.pick-kind.new.self.level c.pick-kind.new.self.state
    c.pick-kind.ensures.value c.pick-kind.ensures.level c.pick-kind.ensures.state)

use Rattle.std.proofs.Common.{sym, ◌∙◌, subst, IfOk}
use Rattle.script_text.specs.declared.command.Command.TheVariants as commands
use Rattle.session_core.specs.Replies.{Finishes}
use Rattle.session_core.proofs.finishing.outcome.Goals as goal

pub returns-in-Split-clause-finishes : goal.returns-in-Split-clause-finishes
returns-in-Split-clause-finishes g c =
    subst (λ command. IfOk c.split.result (Finishes c.args.space.now c.args.prepared.now.version c.args.splitting.now command))
    (sym c.in-Split.is ∙ c.command.ensures.value)
    (subst (λ xs. IfOk c.split.result (Finishes c.args.space.now c.args.prepared.now.version c.args.splitting.now
    (commands.Split c.in-Split.op xs))) c.as_slice.ensures
    (c.split.ensures c.args.prepared.now.version))

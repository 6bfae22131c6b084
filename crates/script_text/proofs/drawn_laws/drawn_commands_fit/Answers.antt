use Rattle.script_text.proofs.DrawnFits.{drawings-drawn}
use Rattle.script_text.proofs.drawn_laws.drawn_commands_fit.Goals as goal

pub returns : goal.returns
returns c = record { law = drawings-drawn }

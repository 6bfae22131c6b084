use Rattle.script_text.proofs.GeneratedLemmas.{four_sessions}
use Rattle.script_text.proofs.laws.generated_scripts_have_four_sessions.Goals as goal

pub returns : goal.returns
returns c = λ seed. four_sessions seed

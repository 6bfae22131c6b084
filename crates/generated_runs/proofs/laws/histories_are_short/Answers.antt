use Rattle.generated_runs.proofs.Histories.{room_left, short_history}
use Rattle.generated_runs.proofs.laws.histories_are_short.Goals as goal

pub returns : goal.returns
returns c = record { law = short_history; room = room_left }

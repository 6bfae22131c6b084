use Rattle.script_text.proofs.LeastIndices.{index-from, index-coprime, index-near, index-least}
use Rattle.script_text.proofs.laws.indices_are_least.Goals as goal

pub returns : goal.returns
returns c = record { from = index-from; coprime = index-coprime; near = index-near; least = index-least }

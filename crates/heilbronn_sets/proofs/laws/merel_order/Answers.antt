use Rattle.heilbronn_sets.proofs.Rising.{merel-rising, merel-once}
use Rattle.heilbronn_sets.proofs.laws.merel_order.Goals as goal

pub returns : goal.returns
returns c = record { rising = merel-rising; once = merel-once }

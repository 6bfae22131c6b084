use Rattle.column_flight.proofs.FlightEvents.{IsLegal-push}
use Rattle.column_flight.proofs.FlightLaws.{once, settled, stays, kept, held, held_once}
use Rattle.column_flight.proofs.laws.each_column_is_published_once.Goals as goal

pub returns : goal.returns
returns c = record { once = once; settled = settled; stays = stays; kept = kept; held = held; held_once = held_once; next = IsLegal-push }

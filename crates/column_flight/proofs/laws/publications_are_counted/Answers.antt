use Rattle.column_flight.proofs.FlightLaws.{publications_count, published_members, published_distinct}
use Rattle.column_flight.proofs.laws.publications_are_counted.Goals as goal

pub returns : goal.returns
returns c = record { count = publications_count; members = published_members; distinct = published_distinct }

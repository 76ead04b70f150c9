use Rattle.listing_laws.proofs.WholeLists.{prefix_has_list, loop_stops, loop_stops_within}
use Rattle.listing_laws.proofs.loop_that_stops.Goals as goal

pub returns : goal.returns
returns c = record { list = prefix_has_list; stops = loop_stops; within = loop_stops_within }

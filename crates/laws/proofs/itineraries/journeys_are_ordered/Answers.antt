use Rattle.laws.proofs.Ordered.{journeys_ordered}
use Rattle.laws.proofs.itineraries.journeys_are_ordered.Goals as goal

pub returns : goal.returns
returns c = journeys_ordered

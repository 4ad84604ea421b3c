use Rattle.laws.proofs.Ordered.{itinerary_reaches}
use Rattle.laws.proofs.itineraries.an_itinerary_reaches_its_mark.Goals as goal

pub returns : goal.returns
returns c = itinerary_reaches

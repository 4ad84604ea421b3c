use Rattle.laws.proofs.Ordered.{one_itinerary}
use Rattle.laws.proofs.itineraries.a_mark_has_one_itinerary.Goals as goal

pub returns : goal.returns
returns c = one_itinerary

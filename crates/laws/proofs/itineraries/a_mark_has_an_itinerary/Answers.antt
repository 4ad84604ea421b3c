use Rattle.laws.proofs.ItineraryThere.{always_an_itinerary}
use Rattle.laws.proofs.itineraries.a_mark_has_an_itinerary.Goals as goal

pub returns : goal.returns
returns c = always_an_itinerary

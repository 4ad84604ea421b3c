use Rattle.std.proofs.Common.{refl}
use Rattle.itinerary.specs.Order.{precedes}
use Rattle.laws.proofs.itineraries.order_examples_stand.Goals as goal

pub returns : goal.returns
unfolding precedes
returns c = (refl, refl, refl, refl, refl, refl, refl, refl, refl)

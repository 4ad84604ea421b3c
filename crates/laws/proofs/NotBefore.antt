-- Nobody is there before setting out.
use Rattle.std.proofs.Common.{arith}
use Rattle.journey.specs.Journeys.Reached.{without_boat, by_legs}
use Rattle.journey.proofs.Walking.{ends_le}
use Rattle.journey.proofs.Chains.{journey_le}
use Rattle.laws.specs.JourneyLaws.{NotBefore}

-- Time does not run back: to the first leg, along each leg that runs, from each leg to the next, and at the end.
pub nobody_is_there_before : NotBefore
nobody_is_there_before p q arrival taken (without_boat e) = ends_le e
nobody_is_there_before p q arrival taken (by_legs first rest j e) = omega (arith, journey_le j, ends_le e)

use Rattle.laws.proofs.InTwo.{two_journeys_are_one}
use Rattle.laws.proofs.journeys.two_journeys_are_one.Goals as goal

pub returns : goal.returns
returns c = two_journeys_are_one

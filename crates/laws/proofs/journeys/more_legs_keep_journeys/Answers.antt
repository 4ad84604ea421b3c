use Rattle.laws.proofs.MoreLegs.{more_legs_keep_journeys}
use Rattle.laws.proofs.journeys.more_legs_keep_journeys.Goals as goal

pub returns : goal.returns
returns c = more_legs_keep_journeys

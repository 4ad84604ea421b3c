use Rattle.laws.proofs.ComeAndGo.{extra_leg}
use Rattle.laws.proofs.updating.an_extra_leg_keeps_journeys.Goals as goal

pub returns : goal.returns
returns c = extra_leg

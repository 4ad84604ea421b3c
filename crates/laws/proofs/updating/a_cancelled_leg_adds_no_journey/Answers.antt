use Rattle.laws.proofs.ComeAndGo.{cancelled_leg}
use Rattle.laws.proofs.updating.a_cancelled_leg_adds_no_journey.Goals as goal

pub returns : goal.returns
returns c = cancelled_leg

use Rattle.laws.proofs.NoLegTwice.{no_leg_is_needed_twice}
use Rattle.laws.proofs.journeys.no_leg_is_needed_twice.Goals as goal

pub returns : goal.returns
returns c = no_leg_is_needed_twice

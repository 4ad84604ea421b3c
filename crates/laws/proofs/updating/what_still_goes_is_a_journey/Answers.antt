use Rattle.laws.proofs.StillGoing.{still_a_journey}
use Rattle.laws.proofs.updating.what_still_goes_is_a_journey.Goals as goal

pub returns : goal.returns
returns c = still_a_journey

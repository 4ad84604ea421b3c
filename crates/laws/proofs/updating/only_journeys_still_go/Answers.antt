use Rattle.laws.proofs.StillGoing.{still_exact}
use Rattle.laws.proofs.updating.only_journeys_still_go.Goals as goal

pub returns : goal.returns
returns c = still_exact

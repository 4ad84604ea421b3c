use Rattle.laws.proofs.Moments.{usable_at_each_moment}
use Rattle.laws.proofs.runs.plans_stay_usable.Goals as goal

pub returns : goal.returns
returns c = usable_at_each_moment

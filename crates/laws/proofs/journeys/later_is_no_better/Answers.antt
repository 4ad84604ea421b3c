use Rattle.laws.proofs.Later.{later_is_no_better}
use Rattle.laws.proofs.journeys.later_is_no_better.Goals as goal

pub returns : goal.returns
returns c = later_is_no_better

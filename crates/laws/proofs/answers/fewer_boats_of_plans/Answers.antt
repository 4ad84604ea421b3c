use Rattle.laws.proofs.OneAnswer.{fewer_boats_of_plans}
use Rattle.laws.proofs.answers.fewer_boats_of_plans.Goals as goal

pub returns : goal.returns
returns c = fewer_boats_of_plans

use Rattle.laws.proofs.OneAnswer.{one_answer_of_plans}
use Rattle.laws.proofs.answers.one_answer_of_plans.Goals as goal

pub returns : goal.returns
returns c = one_answer_of_plans

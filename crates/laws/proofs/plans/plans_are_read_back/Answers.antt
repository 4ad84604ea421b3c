use Rattle.plan.proofs.ReadBack.{read_back}
use Rattle.laws.proofs.plans.plans_are_read_back.Goals as goal

pub returns : goal.returns
returns c = read_back

use Rattle.laws.proofs.OneVerdict.{one_verdict}
use Rattle.laws.proofs.journeys.one_verdict_is_right.Goals as goal

pub returns : goal.returns
returns c = one_verdict

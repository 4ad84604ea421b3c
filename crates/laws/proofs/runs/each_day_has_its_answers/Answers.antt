use Rattle.laws.proofs.Moments.{answered_each_day}
use Rattle.laws.proofs.runs.each_day_has_its_answers.Goals as goal

pub returns : goal.returns
returns c = answered_each_day

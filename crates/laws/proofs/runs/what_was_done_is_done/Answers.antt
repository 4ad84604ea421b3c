use Rattle.laws.proofs.Moments.{runs_in_two}
use Rattle.laws.proofs.runs.what_was_done_is_done.Goals as goal

pub returns : goal.returns
returns c = runs_in_two

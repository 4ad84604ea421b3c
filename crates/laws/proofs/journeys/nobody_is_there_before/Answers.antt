use Rattle.laws.proofs.NotBefore.{nobody_is_there_before}
use Rattle.laws.proofs.journeys.nobody_is_there_before.Goals as goal

pub returns : goal.returns
returns c = nobody_is_there_before

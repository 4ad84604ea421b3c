use Rattle.laws.proofs.TheDay.{day_stands}
use Rattle.laws.proofs.updating.day_stands.Goals as goal

pub returns : goal.returns
returns c = day_stands

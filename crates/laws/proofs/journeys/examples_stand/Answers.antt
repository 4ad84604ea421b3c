use Rattle.laws.proofs.Harbour.{harbour_stands}
use Rattle.laws.proofs.journeys.examples_stand.Goals as goal

pub returns : goal.returns
returns c = harbour_stands

use Rattle.laws.proofs.FourPiers.{table_stands}
use Rattle.laws.proofs.answers.table_stands.Goals as goal

pub returns : goal.returns
returns c = table_stands

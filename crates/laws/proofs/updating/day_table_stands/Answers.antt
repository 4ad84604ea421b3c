use Rattle.laws.proofs.DayTable.{day_table_stands}
use Rattle.laws.proofs.updating.day_table_stands.Goals as goal

pub returns : goal.returns
returns c = day_table_stands

use Rattle.marks.proofs.MarkLaws.{fewer_boats}
use Rattle.laws.proofs.answers.fewer_boats_of_any.Goals as goal

pub returns : goal.returns
returns g c = fewer_boats _

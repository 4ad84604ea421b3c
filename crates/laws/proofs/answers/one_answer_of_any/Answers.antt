use Rattle.marks.proofs.MarkLaws.{one_answer}
use Rattle.laws.proofs.answers.one_answer_of_any.Goals as goal

pub returns : goal.returns
returns g c = one_answer _

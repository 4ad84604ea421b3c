-- In every plan a question has at most one answer, and the answer for fewer boats is the beginning of the one for more.
use Rattle.marks.proofs.MarkLaws.{one_answer, fewer_boats}
use Rattle.rounds.specs.Answers.{MarkReached}
use Rattle.laws.specs.AnswerLaws.{OneAnswerOfPlans, FewerBoatsOfPlans}

pub one_answer_of_plans : OneAnswerOfPlans
one_answer_of_plans p most q = one_answer (MarkReached p q) most

pub fewer_boats_of_plans : FewerBoatsOfPlans
fewer_boats_of_plans p q = fewer_boats (MarkReached p q)

use Rattle.laws.proofs.AllMarks.{always_answered}
use Rattle.laws.proofs.answers.there_is_always_an_answer.Goals as goal

pub returns : goal.returns
returns c = always_answered

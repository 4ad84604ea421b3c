use Rattle.laws.proofs.AllMarks.{computed_answers}
use Rattle.laws.proofs.answers.the_computed_one_answers.Goals as goal

pub returns : goal.returns
returns c = computed_answers

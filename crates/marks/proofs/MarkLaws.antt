-- The laws of marks and answers.
use Rattle.marks.specs.declared.mark.Mark.{Mark}
use Rattle.marks.specs.MarkLaws.{OneAnswer, FewerBoats}
use Rattle.marks.proofs.Answers.{answers_same, answer_fewer, up_to_beginning}

pub one_answer : (R : Mark → Type 0) → OneAnswer R
one_answer R most ms ns a b = answers_same a b

pub fewer_boats : (R : Mark → Type 0) → FewerBoats R
fewer_boats R few most ms h a = (answer_fewer h a, up_to_beginning few ms a.falling)

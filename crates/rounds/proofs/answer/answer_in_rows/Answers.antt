use Rattle.std.proofs.Common.{arith}
use Rattle.plan.specs.Words.{plan_in}
use Rattle.rounds.specs.Rows.{plan_of}
use Rattle.rounds.proofs.Alike.{answered_alike}
use Rattle.rounds.proofs.answer.answer_in_rows.Goals as goal

pub whole_as_slice-rows : goal.whole_as_slice-rows
whole_as_slice-rows t c = omega (arith, c.requires.small)

pub whole_as_slice-rows-2 : goal.whole_as_slice-rows-2
whole_as_slice-rows-2 t c = omega (arith, c.requires.small)

pub returns : goal.returns
returns t c =
    answered_alike (plan_in c.args.table.words.now) (plan_of c.lay_out_in_front.result) c.lay_out_in_front.ensures.alike c.args.question.now c.args.out.now
    c.answer_opened.result c.answer_opened.new.out c.answer_opened.ensures

use Rattle.rounds.specs.Rows.{plan_of}
use Rattle.race.proofs.Each.{AnsweredTo}
use Rattle.race.proofs.answer_each.Given as goal

abbrev pub invariant-loop-i : goal.invariant-loop-i
invariant-loop-i l = AnsweredTo (plan_of l.layout) l.questions l.initial.out l.out l.i

use Rattle.std.proofs.Common.{◌/◌, length}
use Rattle.plan.specs.Words.{plan_in}
use Rattle.rounds.specs.Rows.{plan_of}
use Rattle.race.proofs.Each.{each_alike}
use Rattle.race.proofs.answer_each_checked.Goals as goal

pub returns : goal.returns
returns c =
    each_alike (plan_in c.args.table.words.now) (plan_of c.lay_out_in_front.result) c.lay_out_in_front.ensures.alike
    c.args.questions.now c.args.out.now c.answer_each.new.out (length c.args.questions.now / 4)
    c.answer_each.ensures

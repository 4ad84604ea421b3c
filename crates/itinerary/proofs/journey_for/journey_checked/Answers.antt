use Rattle.plan.specs.Words.{plan_in}
use Rattle.rounds.specs.Rows.{plan_of}
use Rattle.itinerary.proofs.SamePlan.{named_alike}
use Rattle.itinerary.proofs.journey_for.journey_checked.Goals as goal

pub returns : goal.returns
returns c =
    named_alike (plan_in c.args.table.words.now) (plan_of c.lay_out_in_front.result) c.lay_out_in_front.ensures.alike
    c.args.question.now c.args.mark c.args.out.now c.journey_opened.result c.journey_opened.new.out
    c.journey_opened.ensures

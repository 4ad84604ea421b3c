use Rattle.std.proofs.Common.{◌≡◌, length, arith}
use Rattle.plan.specs.Words.{plan_in}
use Rattle.plan.proofs.Parts.{count_legs}
use Rattle.plan.proofs.LegWords.{leg_added}
use Rattle.plan.proofs.writing.add_leg.Goals as goal

pub overflow_add-legs : goal.overflow_add-legs
overflow_add-legs c =
    let n : c.legs-legs.result ≡ length (plan_in c.args.words.now).legs = cc in
    omega (arith, count_legs c.args.words.now, c.requires.room)

pub returns : goal.returns
returns c =
    leg_added c.args.words.now c.requires.whole c.requires.room c.args.leg c.walks_start-at.result
    c.end-end.result c.legs-legs.result _ c.write.new.part _ (cc) (cc) (cc) c.copy_within.ensures.after c.write.ensures
    c.set_leg_count.ensures

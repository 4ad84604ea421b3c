use Rattle.plan.proofs.LegWords.{leg_put}
use Rattle.plan.proofs.writing.put_leg.Goals as goal

pub returns : goal.returns
returns c =
    leg_put c.args.words.now c.requires.whole c.args.i c.requires.within c.leg_start-start.result (cc) c.args.leg c.write.new.part c.write.ensures

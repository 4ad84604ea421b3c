use Rattle.std.proofs.Common.{◌≡◌, ◌+◌, ◌*◌, arith}
use Rattle.plan.specs.Words.{legs_start, plan_end}
use Rattle.plan.proofs.Parts.{count_legs}
use Rattle.plan.proofs.LegWords.{leg_removed}
use Rattle.plan.proofs.writing.remove_leg.Goals as goal

pub copy_within-requires-clause-start_le_end : goal.copy_within-requires-clause-start_le_end
copy_within-requires-clause-start_le_end c =
    let n = count_legs c.args.words.now in
    let at : c.leg_start-at.result ≡ legs_start c.args.words.now + 6 * c.args.i = cc in
    let end : c.end-end.result ≡ plan_end c.args.words.now = cc in
    omega (arith, c.requires.within)

pub returns : goal.returns
returns c =
    leg_removed c.args.words.now c.requires.whole c.args.i c.requires.within c.leg_start-at.result (cc) c.end-end.result
    c.legs-legs.result _ _ (cc) (cc) c.copy_within.ensures.after c.set_leg_count.ensures

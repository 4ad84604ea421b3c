use Rattle.std.proofs.Common.{◌<◌, length, sym, ◌∙◌, arith}
use Rattle.plan.specs.Words.{plan_in}
use Rattle.updates.proofs.Delays.{delay_none, half_whole, half_within, half_leg, delay_skip, delay_more, times_within}
use Rattle.updates.proofs.delaying.delay_legs.Goals as goal
use Rattle.updates.proofs.delaying.delay_legs.Goals.{then-is_touched, else-is_touched}

pub loop-i-init : goal.loop-i-init
loop-i-init c = delay_none c.args.from c.args.minutes c.args.plan.now c.requires.whole

pub leg_at-leg-requires : goal.leg_at-leg-requires
leg_at-leg-requires c =
    let so_far = c.loop-i.invariant in
    record {
      whole = half_whole c.args.from c.args.minutes c.args.plan.now c.loop-i.i
          c.loop-i.plan so_far;
      within = half_within c.args.from c.args.minutes c.args.plan.now c.loop-i.i
          c.loop-i.plan so_far (omega (arith, c.requires.legs));
    }

pub later-requires : goal.later-requires
later-requires c =
    let xs = c.args.plan.now in
    let below : c.loop-i.i < length (plan_in xs).legs = omega (arith, c.requires.legs) in
    let is =
    c.leg_at-leg.ensures ∙ half_leg c.args.from c.args.minutes xs c.loop-i.i
    c.loop-i.plan c.loop-i.invariant below in
    let t =
    times_within (plan_in xs) c.args.from c.args.minutes c.requires.in_time c.loop-i.i below
    _ is (sym c.if-is_touched.ensures) in
    record { leaves = t.0; comes = t.1 }

pub put_leg-requires : goal.put_leg-requires
put_leg-requires c =
    let so_far = c.loop-i.invariant in
    record {
      whole = half_whole c.args.from c.args.minutes c.args.plan.now c.loop-i.i
          c.loop-i.plan so_far;
      within = half_within c.args.from c.args.minutes c.args.plan.now c.loop-i.i
          c.loop-i.plan so_far (omega (arith, c.requires.legs));
    }

pub loop-i-preserved : goal.loop-i-preserved
loop-i-preserved c =
    let xs = c.args.plan.now in
    let below : c.loop-i.i < length (plan_in xs).legs = omega (arith, c.requires.legs) in
    elim c.if-is_touched.branch [
      | then-is_touched w ↦
          w.plan-is
          ∙ delay_more c.args.from c.args.minutes xs c.loop-i.i c.loop-i.plan
          c.loop-i.invariant below c.leg_at-leg.result c.leg_at-leg.ensures
          w.later.result w.put_leg.new.words (sym w.if-is_touched.ensures) w.later.ensures
          w.put_leg.ensures
      | else-is_touched w ↦
          w.plan-is
          ∙ delay_skip c.args.from c.args.minutes xs c.loop-i.i c.loop-i.plan
          c.loop-i.invariant below c.leg_at-leg.result c.leg_at-leg.ensures
          (sym w.if-is_touched.ensures)
    ]

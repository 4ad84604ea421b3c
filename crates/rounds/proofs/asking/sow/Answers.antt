use Rattle.std.proofs.Common.{◌≡◌, Bool, true, false, cond, refl, ap, ◌∙◌, arith}
use mir.Val.{bool_byte}
use Rattle.plan.specs.Legs.{leg}
use Rattle.rounds.specs.Rows.{plan_of}
use Rattle.rounds.specs.Boarding.{ready_for}
use Rattle.rounds.proofs.Laying.{row_more}
use Rattle.rounds.proofs.asking.sow.Goals as goal

as_number : (b : Bool) → bool_byte b ≡ cond b 1 0
as_number true = refl
as_number false = refl

pub loop-i-preserved : goal.loop-i-preserved
loop-i-preserved c =
    row_more 0 _ (λ j. cond (ready_for c.args.ready.now (leg (plan_of c.args.layout) j)) 1 0) _ c.loop-i.i (omega arith)
    c.loop-i.invariant (c.from.ensures ∙ ap bool_byte c.is_in_time.ensures ∙ as_number _)

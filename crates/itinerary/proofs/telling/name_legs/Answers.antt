use Rattle.std.proofs.Common.{length, get_or, refl, arith, length-set}
use Rattle.plan.specs.Legs.{no_leg}
use Rattle.itinerary.proofs.Writing.{legs_row_none, legs_row_more}
use Rattle.itinerary.proofs.telling.name_legs.Goals as goal

pub loop-j-init : goal.loop-j-init
loop-j-init c =
    legs_row_none (λ i. get_or c.args.legs.now i no_leg) (length c.args.places.now) c.args.places.now
    c.args.out.now (omega arith)

pub loop-j-preserved : goal.loop-j-preserved
loop-j-preserved c =
    let long = length-set c.args.out.now 0 (length c.args.places.now) in
    legs_row_more (λ i. get_or c.args.legs.now i no_leg) (length c.args.places.now) c.args.places.now _
    c.loop-j.out c.loop-j.j
    c.loop-j.invariant c.loop-j-test.true (omega arith) _ refl

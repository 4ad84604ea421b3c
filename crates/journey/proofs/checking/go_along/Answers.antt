use Rattle.std.proofs.Common.{◌≡◌, ◌+◌, Some, None, Err, sym, ap, ◌∙◌, subst, arith}
use Rattle.plan.specs.Words.{plan_in}
use Rattle.plan.proofs.Laws.{sound_plan}
use Rattle.journey.specs.declared.checking.Ride.{Ride}
use Rattle.journey.specs.Checked.{next_leg, Rides}
use Rattle.journey.proofs.Trails.{Trail, trail_one, trail_more, no_ride, ride_breaks, name_behind}
use Rattle.journey.proofs.checking.go_along.Goals as goal

pub returns-in_err-last : goal.returns-in_err-last
returns-in_err-last c =
    let p = plan_in c.args.table.words.now in
    let none : c.first_leg.result ≡ None = grind arith in
    let told : c.from_residual.result ≡ Err (record { place = 0 }) = grind arith in
    subst (Rides p c.args.at.pier c.args.at.time c.args.legs.now) (sym told)
    (no_ride p _ _ _ (sound_plan _ c.args.table.sound) c.requires (sym c.first_leg.ensures ∙ none))

pub loop-i-init : goal.loop-i-init
loop-i-init c =
    let some : c.first_leg.result ≡ Some c.in_ok-last.last = grind arith in
    trail_one (plan_in c.args.table.words.now) c.args.at.pier c.args.at.time c.args.legs.now
    (sound_plan _ c.args.table.sound) c.in_ok-last.last c.requires (sym c.first_leg.ensures ∙ some)

pub returns-in_err-next : goal.returns-in_err-next
returns-in_err-next c =
    let p = plan_in c.args.table.words.now in
    let names = c.args.legs.now in
    let none : c.next_leg.result ≡ None = grind arith in
    let told : c.from_residual-in_err-next.result ≡ Err (record { place = c.loop-i.i + 1 }) = grind arith in
    subst (Rides p c.args.at.pier c.args.at.time names) (sym told)
    (ride_breaks p _ _ names (sound_plan _ c.args.table.sound) _ _ _ c.loop-i.invariant (omega arith)
    (ap (next_leg p c.loop-i.ride.last) (name_behind names c.loop-i.i) ∙ sym c.next_leg.ensures ∙ none))

pub loop-i-preserved : goal.loop-i-preserved
loop-i-preserved c =
    let p = plan_in c.args.table.words.now in
    let names = c.args.legs.now in
    let some : c.next_leg.result ≡ Some c.in_ok-next.next = grind arith in
    subst (λ (r : Ride). Trail p c.args.at.pier c.args.at.time names (c.loop-i.i + 1 + 1) r.last r.boats) (sym c.with-ride.ensures)
    (trail_more p c.args.at.pier c.args.at.time names (sound_plan _ c.args.table.sound) _ _ _ c.in_ok-next.next c.loop-i.invariant (omega arith)
    (ap (next_leg p c.loop-i.ride.last) (name_behind names c.loop-i.i) ∙ sym c.next_leg.ensures ∙ some))

use Rattle.std.proofs.Common.{◌≡◌, ◌<◌, length, Some, None, Ok, Err, sym, subst, arith}
use Rattle.std.proofs.lemmas.Bool.Decides.{nat_tests}
use Rattle.plan.specs.Words.{plan_in}
use Rattle.journey.specs.declared.at.At.{At}
use Rattle.journey.specs.Checked.{EarliestEnd, Rides, Verdict}
use Rattle.journey.proofs.Trails.{there_on_foot, broken_on_foot, there_by_boat, broken_at_end}
use Rattle.journey.proofs.checking.check_journey.Goals as goal

pub returns-in_err-arrival : goal.returns-in_err-arrival
returns-in_err-arrival c =
    let p = plan_in c.args.table.words.now in
    let q = c.args.question in
    let names = c.args.legs.now in
    let e = c.if-is_empty.ensures in
    let no_name : length names < 1 = grind (arith, nat_tests) in
    let none : c.ends-on_foot.result ≡ None = grind arith in
    let told : c.from_residual.result ≡ Err (record { place = 0 }) = grind arith in
    let end = subst (λ (a : At). EarliestEnd p q.to a.pier a.time c.ends-on_foot.result) c.outset.ensures c.ends-on_foot.ensures in
    subst (Verdict p q.from q.time q.to names) (sym told)
    (broken_on_foot p q.from q.time q.to names no_name (subst (EarliestEnd p q.to q.from q.time) none end))

pub returns-then-is_empty : goal.returns-then-is_empty
returns-then-is_empty c =
    let p = plan_in c.args.table.words.now in
    let q = c.args.question in
    let names = c.args.legs.now in
    let e = c.if-is_empty.ensures in
    let no_name : length names < 1 = grind (arith, nat_tests) in
    let some : c.ends-on_foot.result ≡ Some c.in_ok-arrival.arrival = grind arith in
    let end = subst (λ (a : At). EarliestEnd p q.to a.pier a.time c.ends-on_foot.result) c.outset.ensures c.ends-on_foot.ensures in
    there_on_foot p q.from q.time q.to names _ no_name (subst (EarliestEnd p q.to q.from q.time) some end)

pub returns-in_err-arrival-2 : goal.returns-in_err-arrival-2
returns-in_err-arrival-2 c =
    let p = plan_in c.args.table.words.now in
    let q = c.args.question in
    let names = c.args.legs.now in
    let ride = c.in_ok-ride.ride in
    let went : c.go_along.result ≡ Ok ride = grind arith in
    let none : c.ends-end.result ≡ None = grind arith in
    let told : c.from_residual-in_err-arrival-2.result ≡ Err (record { place = length names }) = grind arith in
    let rode = subst (λ (a : At). Rides p a.pier a.time names c.go_along.result) c.outset-2.ensures c.go_along.ensures in
    let end = subst (λ (a : At). EarliestEnd p q.to a.pier a.time c.ends-end.result) c.arrival_of.ensures c.ends-end.ensures in
    subst (Verdict p q.from q.time q.to names) (sym told)
    (broken_at_end p q.from q.time q.to names ride (subst (Rides p q.from q.time names) went rode)
    (subst (EarliestEnd p q.to ride.last.to ride.last.comes) none end))

pub returns : goal.returns
returns c =
    let p = plan_in c.args.table.words.now in
    let q = c.args.question in
    let names = c.args.legs.now in
    let ride = c.in_ok-ride.ride in
    let went : c.go_along.result ≡ Ok ride = grind arith in
    let some : c.ends-end.result ≡ Some c.in_ok-arrival-2.arrival = grind arith in
    let rode = subst (λ (a : At). Rides p a.pier a.time names c.go_along.result) c.outset-2.ensures c.go_along.ensures in
    let end = subst (λ (a : At). EarliestEnd p q.to a.pier a.time c.ends-end.result) c.arrival_of.ensures c.ends-end.ensures in
    there_by_boat p q.from q.time q.to names _ ride (subst (Rides p q.from q.time names) went rode)
    (subst (EarliestEnd p q.to ride.last.to ride.last.comes) some end)

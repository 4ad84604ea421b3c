use Rattle.std.proofs.Common.{◌≡◌, ◌<◌, Err, length, rules, tests}
use Rattle.std.proofs.lemmas.Iterator.{first_from_Range}
use Rattle.plan.specs.declared.refusal.Refusal.TheVariants.{TooLate}
use Rattle.plan.specs.Legs.{leg}
use Rattle.plan.specs.Words.{plan_in}
use Rattle.plan.specs.Check.{first_not}
use Rattle.updates.specs.Updates.{in_time}
use Rattle.updates.proofs.Delays.{sought_none, sought_some}
use Rattle.updates.proofs.delaying.check_delay.Goals as goal
use Rattle.updates.proofs.delaying.check_delay.Goals.{In-Some}

-- the leg that is found is in the plan, and it is the first that fails
found : (c : In-Some) → (c.in-Some.i < length (plan_in c.args.table.words.now).legs)
    × (Err (TooLate c.in-Some.i) ≡ first_not (λ i. in_time c.args.from c.args.minutes (leg (plan_in c.args.table.words.now) i)) TooLate
    (length (plan_in c.args.table.words.now).legs))
found c =
    let p = plan_in c.args.table.words.now in
    sought_some (λ i. in_time c.args.from c.args.minutes (leg p i)) TooLate c.legs.result _ c.find.result c.in-Some.i c.legs.ensures c.in-Some.is
    (first_from_Range _ _ _ c.find.result _ _ c.find.ensures.ran (λ i q k. search (rules, tests)) (λ i q k. search (rules, tests)))

pub overflow_cast-result : goal.overflow_cast-result
overflow_cast-result c = let below = (found c).0 in search (rules, below)

pub returns-in-Some : goal.returns-in-Some
returns-in-Some c = (found c).1

pub returns-in-None : goal.returns-in-None
returns-in-None c =
    let p = plan_in c.args.table.words.now in
    sought_none (λ i. in_time c.args.from c.args.minutes (leg p i)) TooLate c.legs.result _ c.find.result c.legs.ensures c.in-None.is
    (first_from_Range _ _ _ c.find.result _ _ c.find.ensures.ran (λ i q k. search (rules, tests)) (λ i q k. search (rules, tests)))

use Rattle.std.proofs.Common.{◌≡◌, true, false, rules, tests}
use Rattle.std.proofs.lemmas.Iterator.{first_from_Range}
use Rattle.plan.specs.Legs.{leg}
use Rattle.plan.specs.Words.{plan_in}
use Rattle.updates.specs.Updates.{named}
use Rattle.updates.proofs.Known.{found_first}
use Rattle.updates.proofs.cancelling.find.Goals as goal

pub returns : goal.returns
returns c =
    let p = plan_in c.args.table.words.now in
    let n = c.args.name in
    let first = first_from_Range _ _ _ c.find.result (λ i. named n (leg p i) ≡ true) (λ i. named n (leg p i) ≡ false) c.find.ensures.ran
    (λ i q k. search (rules, tests)) (λ i q k. search (rules, tests)) in
    found_first p n _ _ c.legs.ensures first

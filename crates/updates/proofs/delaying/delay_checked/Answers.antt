use Rattle.std.proofs.Common.{◌≡◌, ℕ, List, Ok, sym, ap, ◌∙◌, rules}
use Rattle.plan.specs.Words.{plan_in}
use Rattle.plan.proofs.Laws.{usable_opens}
use Rattle.updates.specs.declared.update.Update.TheVariants.{Delay}
use Rattle.updates.specs.Updates.{update_checked}
use Rattle.updates.proofs.Done.{applied, delay_fits}
use Rattle.updates.proofs.delaying.delay_checked.Goals as goal

pub of-table-requires : goal.of-table-requires
of-table-requires c = search (rules, usable_opens)

pub returns : goal.returns
returns c =
    let xs = c.args.plan.now in
    let u = Delay c.args.from c.args.minutes in
    let passed : update_checked (plan_in xs) u ≡ Ok tt =
    ap (λ (ys : List ℕ). update_checked (plan_in ys) u) (sym c.of-table.ensures) ∙ sym c.check_delay.ensures ∙
    c.in_ok-check_delay.was in
    applied xs u c.requires c.delay_legs.new.plan passed
    (delay_fits xs c.args.from c.args.minutes c.requires.whole) c.delay_legs.ensures

use Rattle.std.proofs.Common.{◌≡◌, Ok, ℕ, List, length, ap, ◌∙◌, rules}
use Rattle.plan.specs.Words.{plan_in}
use Rattle.plan.specs.Check.{plan_checked}
use Rattle.plan.proofs.Laws.{usable_opens}
use Rattle.updates.specs.Updates.{Applied}
use Rattle.updates.proofs.Done.{told_done}
use Rattle.updates.proofs.applying.apply.Goals as goal

pub of-requires : goal.of-requires
of-requires c = search (rules, usable_opens)

pub returns : goal.returns
returns c =
    let checked : Ok c.in_ok-check.field-0 ≡ plan_checked c.args.plan.now = search rules in
    let done : Applied c.args.plan.now c.args.update (Ok tt) c.apply_checked.new.plan = search rules in
    told_done c.args.plan.now c.apply_checked.new.plan c.args.update c.in_ok-check.field-0
    c.legs.result checked done (c.legs.ensures ∙ ap (λ (ys : List ℕ). length (plan_in ys).legs) c.of.ensures)

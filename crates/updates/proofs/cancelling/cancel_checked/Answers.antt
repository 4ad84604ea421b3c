use Rattle.std.proofs.Common.{ℕ, List, Some, subst, rules}
use Rattle.plan.specs.Words.{plan_in}
use Rattle.plan.proofs.Laws.{usable_opens}
use Rattle.updates.specs.Updates.{Found}
use Rattle.updates.proofs.Done.{cancelled}
use Rattle.updates.proofs.cancelling.cancel_checked.Goals as goal

pub of-requires : goal.of-requires
of-requires c = search (rules, usable_opens)

pub returns : goal.returns
returns c =
    let found =
    subst (λ (xs : List ℕ). Found (plan_in xs) c.args.name (Some c.in-Some.i)) c.of.ensures c.in-Some.ensures in
    cancelled c.args.plan.now c.args.name c.in-Some.i c.requires found.0 found.1
    c.remove_leg.new.words c.remove_leg.ensures

use Rattle.std.proofs.Common.{◌≡◌}
use Rattle.small_plans.proofs.making.make_legs.Given as goal

abbrev pub invariant-loop : goal.invariant-loop
invariant-loop g l =
    goal.F-IsAlwaysCallable g l.add
    × (l.plan.changes.items ≡ l.fn.plan.changes.items)
    × (l.plan.walks.items ≡ l.fn.plan.walks.items)

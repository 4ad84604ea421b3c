use Rattle.std.proofs.Common.{◌≡◌, ℕ, ◌<◌, cond, get_or}
use Rattle.plan.specs.Legs.{leg}
use Rattle.rounds.specs.Rows.{plan_of}
use Rattle.rounds.specs.Boarding.{ready_for}
use Rattle.rounds.proofs.asking.sow.Given as goal

abbrev pub invariant-loop-i : goal.invariant-loop-i
invariant-loop-i l =
    (j : ℕ) → j < l.i →
    get_or l.seed j 0 ≡ cond (ready_for l.ready (leg (plan_of l.layout) j)) 1 0

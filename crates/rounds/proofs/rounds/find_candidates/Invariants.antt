use Rattle.std.proofs.Common.{◌≤◌, []}
use Rattle.rounds.specs.Rows.{plan_of}
use Rattle.rounds.specs.Boarding.{Waiting}
use Rattle.rounds.proofs.rounds.find_candidates.Given as goal

abbrev pub invariant-loop-i : goal.invariant-loop-i
invariant-loop-i l = (l.left ≤ l.i) × Waiting (plan_of l.layout) l.time [] l.waits l.left l.i

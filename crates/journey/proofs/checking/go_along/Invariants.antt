use Rattle.std.proofs.Common.{◌+◌}
use Rattle.plan.specs.Words.{plan_in}
use Rattle.journey.proofs.Trails.{Trail}
use Rattle.journey.proofs.checking.go_along.Given as goal

abbrev pub invariant-loop-i : goal.invariant-loop-i
invariant-loop-i l = Trail (plan_in l.table.words.now) l.fn.at.pier l.fn.at.time l.legs (l.i + 1) l.ride.last l.ride.boats

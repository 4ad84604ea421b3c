use Rattle.updates.proofs.Delays.{Halfway}
use Rattle.updates.proofs.delaying.delay_legs.Given as goal

abbrev pub invariant-loop-i : goal.invariant-loop-i
invariant-loop-i l = Halfway l.from l.minutes l.initial.plan l.i l.plan

use Rattle.small_plans.specs.Tried.{IsFalling}
use Rattle.small_plans.proofs.trying.Search.tell.Given as goal

abbrev pub invariant-loop-reached : goal.invariant-loop-reached
invariant-loop-reached l = IsFalling l.told.items

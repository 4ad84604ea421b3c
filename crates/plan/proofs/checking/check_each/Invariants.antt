use Rattle.std.proofs.Common.{ℕ, ◌<◌, true}
use Rattle.plan.proofs.checking.check_each.Given as goal

abbrev pub invariant-loop-i : goal.invariant-loop-i
invariant-loop-i g l = (k : ℕ) → k < l.i → goal.F-post g l.is_sound k true

use Rattle.std.proofs.Common.{◌≡◌, ◌++◌, take}
use Rattle.std.specs.List.{flat_map}
use Rattle.small_plans.specs.Words.{leg_words, walk_words}
use Rattle.small_plans.proofs.small.SmallPlan.words.Given as goal

abbrev pub invariant-loop-leg : goal.invariant-loop-leg
invariant-loop-leg l = l.words.items ≡ l.initial.words.items ++ flat_map leg_words (take l.leg-index l.leg-items)

abbrev pub invariant-loop-walk : goal.invariant-loop-walk
invariant-loop-walk l = l.words.items ≡ l.initial.words.items ++ flat_map walk_words (take l.walk-index l.walk-items)

use Rattle.std.proofs.Common.{◌≡◌, ◌++◌, take}
use Rattle.std.specs.List.{flat_map}
use Rattle.small_plans.specs.Words.{name_words}
use Rattle.small_plans.proofs.journeys.Journey.words.Given as goal

abbrev pub invariant-loop-leg : goal.invariant-loop-leg
invariant-loop-leg l = l.words.items ≡ l.initial.words.items ++ flat_map name_words (take l.leg-index l.leg-items)

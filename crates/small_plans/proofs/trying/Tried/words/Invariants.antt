use Rattle.std.proofs.Common.{◌≡◌, ◌++◌, take}
use Rattle.std.specs.List.{flat_map}
use Rattle.small_plans.specs.Words.{mark_words}
use Rattle.small_plans.specs.Tried.{marks_of}
use Rattle.small_plans.proofs.trying.Tried.words.Given as goal

abbrev pub invariant-loop-reached : goal.invariant-loop-reached
invariant-loop-reached l = l.words.items ≡ l.initial.words.items ++ flat_map mark_words (marks_of (take l.reached-index l.reached-items))

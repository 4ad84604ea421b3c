-- What is told of the journeys that were tried.
use Rattle.std.specs.Prelude.{List, map, AllPairs}
use Rattle.small_plans.specs.declared.small.Mark.{Mark}
use Rattle.small_plans.specs.declared.trying.Reached.{Reached}
use Rattle.small_plans.specs.Marks.{Falls}

-- the arrival, and the boats of the journey that is named for it
abbrev pub mark_of : Reached → Mark
mark_of r = record { arrival = r.arrival; boats = r.itinerary.boats }

abbrev pub marks_of : List Reached → List Mark
marks_of reached = map mark_of reached

-- each mark is by more boats than all before it, and earlier
abbrev pub IsFalling : List Reached → Type 0
IsFalling reached = AllPairs (λ before later. Falls (mark_of before) (mark_of later)) reached

use Rattle.std.proofs.Common.{◌≡◌, ◌∷◌, map, length, get_or, take}
use Rattle.plan.specs.Legs.{no_leg}
use Rattle.marks.specs.Row.{over}
use Rattle.itinerary.specs.Named.{names_words}
use Rattle.itinerary.proofs.telling.name_legs.Given as goal

abbrev pub invariant-loop-j : goal.invariant-loop-j
invariant-loop-j l =
    l.out ≡ over (length l.places ∷ names_words (map (λ i. get_or l.legs i no_leg) (take l.j l.places)))
    l.initial.out

-- Which of two journeys comes first, on examples.
use Rattle.std.specs.Prelude.{◌≡◌, ℕ, true, false, [], ◌∷◌}
use Rattle.plan.specs.declared.leg.Leg.{Leg}
use Rattle.itinerary.specs.Order.{sooner_named}

-- a leg from the pier 0 to the pier 1, by run, number and when it leaves
abbrev pub leaving : ℕ → ℕ → ℕ → Leg
leaving run number at = record { run = run; number = number; from = 0; to = 1; leaves = at; comes = 90 }

-- the last leg decides before the first; it leaves later, or has the smaller run, or the smaller number; and where one
-- has no more legs it comes first
abbrev pub OrderExamples : Type 0
OrderExamples =
    (sooner_named (leaving 5 0 70 ∷ []) (leaving 3 0 60 ∷ []) ≡ true)
    × (sooner_named (leaving 3 7 60 ∷ []) (leaving 5 2 60 ∷ []) ≡ true)
    × (sooner_named (leaving 3 2 60 ∷ []) (leaving 3 7 60 ∷ []) ≡ true)
    × (sooner_named (leaving 3 7 60 ∷ []) (leaving 3 2 60 ∷ []) ≡ false)
    × (sooner_named (leaving 1 0 10 ∷ leaving 5 0 70 ∷ []) (leaving 2 0 20 ∷ leaving 3 0 60 ∷ []) ≡ true)
    × (sooner_named (leaving 2 0 20 ∷ leaving 5 0 70 ∷ []) (leaving 1 0 10 ∷ leaving 5 0 70 ∷ []) ≡ true)
    × (sooner_named (leaving 5 0 70 ∷ []) (leaving 9 9 80 ∷ leaving 5 0 70 ∷ []) ≡ true)
    × (sooner_named (leaving 9 9 80 ∷ leaving 5 0 70 ∷ []) (leaving 5 0 70 ∷ []) ≡ false)
    × (sooner_named (leaving 5 0 70 ∷ []) (leaving 5 0 70 ∷ []) ≡ false)

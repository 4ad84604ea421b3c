-- An itinerary in the plan of four piers, and what becomes of it on the day.
use Rattle.std.specs.Prelude.{List, [], ◌∷◌}
use Rattle.plan.specs.declared.name.LegName.{LegName}
use Rattle.itinerary.specs.Order.{Itinerary}
use Rattle.updates.specs.Still.{StillGoes}
use Rattle.laws.specs.JourneyLaws.{asked}
use Rattle.laws.specs.AnswerExamples.{leg_from}
use Rattle.laws.specs.DayTable.{four_piers, by_now}

-- run 0 to pier 1, and on by run 1
abbrev pub by_run_1 : List LegName
by_run_1 = record { run = 0; number = 0 } ∷ record { run = 1; number = 0 } ∷ []

-- Who would be at pier 2 at 30 with two boats is told to go by run 1. With run 3 late that still goes, and with run 0
-- late too, and in all that follows, it does not: run 1 is missed by a minute.
pub record DayStands : Type 0 where
  pub told : Itinerary four_piers (asked 0 9 2) 30 2 (leg_from 0 0 0 1 10 20 ∷ leg_from 1 0 1 2 24 30 ∷ [])
  pub still : StillGoes (by_now 1) 0 9 by_run_1
  pub missed : StillGoes (by_now 2) 0 9 by_run_1 → ⊥
  pub missed_then : StillGoes (by_now 3) 0 9 by_run_1 → ⊥
  pub missed_at_last : StillGoes (by_now 4) 0 9 by_run_1 → ⊥

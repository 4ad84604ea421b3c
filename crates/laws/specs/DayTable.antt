-- What happens to the plan of four piers on a day, and the answers after each update.
use Rattle.std.specs.Prelude.{◌≡◌, ℕ, List, [], ◌∷◌, map, take}
use Rattle.std.specs.List.{AllByRecursion}
use Rattle.plan.specs.declared.name.LegName.{LegName}
use Rattle.plan.specs.Legs.{Plan}
use Rattle.marks.specs.declared.mark.Mark.{Mark}
use Rattle.rounds.specs.Answers.{Answer}
use Rattle.updates.specs.declared.update.Update.{Update}
use Rattle.updates.specs.declared.update.Update.TheVariants.{Delay, Cancel, Extra}
use Rattle.serving.specs.declared.request.Request.TheVariants.{Apply}
use Rattle.serving.specs.Runs.{day, done}
use Rattle.laws.specs.JourneyLaws.{asked}
use Rattle.laws.specs.AnswerExamples.{leg_from, as_planned, there}

abbrev leg_named : ℕ → ℕ → LegName
leg_named r n = record { run = r; number = n }

abbrev pub four_piers : Plan
four_piers = as_planned

-- Run 3 is two minutes late, so that run 1 comes in time for it; run 0 too, so that it misses run 1; then run 0 ends at
-- pier 1, and an extra boat goes on from there.
abbrev pub updates : List Update
updates = Delay (leg_named 3 0) 2 ∷ Delay (leg_named 0 0) 2 ∷ Cancel (leg_named 0 1) ∷ Extra (leg_from 9 0 1 3 25 33) ∷ []

-- how many updates there were, and the answers then to who is at pier 0 at 9 and takes at most three boats
pub record DayRow : Type 0 where
  pub after : ℕ
  pub to_2 : List Mark
  pub to_3 : List Mark

abbrev pub day_row : ℕ → List Mark → List Mark → DayRow
day_row n ms ns = record { after = n; to_2 = ms; to_3 = ns }

abbrev pub day_table : List DayRow
day_table =
    day_row 0 (there 35 1 ∷ there 30 2 ∷ []) (there 50 1 ∷ there 45 2 ∷ [])
    ∷ day_row 1 (there 35 1 ∷ there 30 2 ∷ []) (there 50 1 ∷ there 45 2 ∷ there 42 3 ∷ [])
    ∷ day_row 2 (there 37 1 ∷ []) (there 52 1 ∷ [])
    ∷ day_row 3 (there 45 1 ∷ []) (there 60 1 ∷ [])
    ∷ day_row 4 (there 45 1 ∷ []) (there 60 1 ∷ there 33 2 ∷ [])
    ∷ []

-- the plan after so many updates
abbrev pub by_now : ℕ → Plan
by_now n = day four_piers (take n updates)

-- these are the answers, and with one boat at most the first marks of them are
pub record DayRowStands (r : DayRow) : Type 0 where
  pub two : Answer (by_now r.after) 3 (asked 0 9 2) r.to_2
  pub three : Answer (by_now r.after) 3 (asked 0 9 3) r.to_3
  pub two_by_one : Answer (by_now r.after) 1 (asked 0 9 2) (take 1 r.to_2)
  pub three_by_one : Answer (by_now r.after) 1 (asked 0 9 3) (take 1 r.to_3)

-- no update is refused, and each row stands
pub record DayTableStands : Type 0 where
  pub all_done : done four_piers (map Apply updates) ≡ updates
  pub rows : AllByRecursion DayRowStands day_table

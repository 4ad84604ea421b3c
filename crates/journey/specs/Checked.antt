-- A journey told by the names of its legs, and what the check of it says.
use Rattle.std.specs.Prelude.{◌≡◌, ℕ, suc, ◌+◌, ◌<◌, ◌≤◌, Bool, cond, ◌&&◌, List, [], ◌∷◌, ◌++◌, map, length, take, codes, decimal, Some, None, Ok, Err, Option, Result, ◌==◌}
use Rattle.plan.specs.declared.leg.Leg.{Leg}
use Rattle.plan.specs.declared.walk.Walk.{Walk}
use Rattle.plan.specs.Legs.{Plan, name, runs, time_bound}
use Rattle.plan.specs.declared.name.LegName.{LegName}
use Rattle.journey.specs.declared.checking.Ride.{Ride}
use Rattle.journey.specs.declared.checking.Broken.{Broken}
use Rattle.marks.specs.declared.mark.Mark.{Mark}
use Rattle.journey.specs.Steps.{stays, follows, begins}
use Rattle.journey.specs.Journeys.{Journey, Ends, boats, last}

-- ---- the end of a journey

-- the walk goes from the one pier to the other
abbrev pub between : Walk → ℕ → ℕ → Bool
between w s d = w.from == s && w.to == d

-- when who is at the pier s at the time t is at the pier d by the walk, if it goes from the one to the other
abbrev pub there_by : Walk → ℕ → ℕ → ℕ → Option ℕ
there_by w s t d = cond (between w s d) (Some (t + w.takes)) None

-- when who is at the pier s at the time t can be at the pier d at the earliest, if at all
abbrev pub EarliestEnd : Plan → ℕ → ℕ → ℕ → Option ℕ → Type 0
EarliestEnd p d s t None = (u : ℕ) → Ends p d s t u → ⊥
EarliestEnd p d s t (Some u) = Ends p d s t u × ((v : ℕ) → Ends p d s t v → u ≤ v)

-- ---- a journey by names

-- the first leg of that name
unfoldable pub find_leg : LegName → List Leg → Option Leg
find_leg n [] = None
find_leg n (a ∷ rest) = cond (a.run == n.run && a.number == n.number) (Some a) (find_leg n rest)

-- a leg that may not be there, if it passes a test
abbrev pub only : (Leg → Bool) → Option Leg → Option Leg
only f None = None
only f (Some a) = cond (f a) (Some a) None

-- the leg of that name, if it is in the plan and runs
abbrev pub going_leg : Plan → LegName → Option Leg
going_leg p n = only runs (find_leg n p.legs)

-- the leg of that name, if a journey can begin with it, or go on with it from another leg
abbrev pub first_leg : Plan → ℕ → ℕ → LegName → Option Leg
first_leg p s t n = only (begins p s t) (going_leg p n)

abbrev pub next_leg : Plan → Leg → LegName → Option Leg
next_leg p a n = only (follows p a) (going_leg p n)

-- with how many boats one is aboard of the next leg
abbrev pub boats_after : ℕ → Leg → Leg → ℕ
boats_after k a b = cond (stays a b) k (k + 1)

-- these are the names of the legs of a journey from the pier s at the time t
pub record Goes (p : Plan) (s t : ℕ) (names : List LegName) (first : Leg) (rest : List Leg) : Type 0 where
  pub made : Journey p s t first rest
  pub named : names ≡ map name (first ∷ rest)

-- a journey from the pier s at the time t has legs of these names
abbrev pub GoneAlong : Plan → ℕ → ℕ → List LegName → Type 0
GoneAlong p s t names = (first : Leg) × ((rest : List Leg) × Goes p s t names first rest)

-- A journey by names reaches a pier: without a boat where there are no names; else by the legs of those names. It is
-- there as early as can be where several walks lead on.
pub data Reaching (p : Plan) (s t d : ℕ) : List LegName → ℕ → ℕ → Type 0 where
  on_no_boat : {u : ℕ} → EarliestEnd p d s t (Some u) → Reaching p s t d [] u 0
  by_boat : {u : ℕ} {names : List LegName} (first : Leg) (rest : List Leg) → Goes p s t names first rest →
      EarliestEnd p d (last first rest).to (last first rest).comes (Some u) → Reaching p s t d names u (boats first rest)

-- It breaks at a place: the names before that place are those of a journey's legs, and with the next name they are not;
-- or all of them are, and the last leg does not lead to the pier.
pub data Breaking (p : Plan) (s t d : ℕ) (names : List LegName) : ℕ → Type 0 where
  at_first : (0 < length names) → ((a : Leg) (rest : List Leg) → Goes p s t (take 1 names) a rest → ⊥) → Breaking p s t d names 0
  at_leg : {i : ℕ} (first : Leg) (rest : List Leg) → i < length names → Goes p s t (take i names) first rest →
      ((a : Leg) (more : List Leg) → Goes p s t (take (suc i) names) a more → ⊥) → Breaking p s t d names i
  at_no_end : (first : Leg) (rest : List Leg) → Goes p s t names first rest →
      EarliestEnd p d (last first rest).to (last first rest).comes None → Breaking p s t d names (length names)
  on_no_foot : names ≡ [] → EarliestEnd p d s t None → Breaking p s t d names 0

-- all names were gone along: the last leg, and the boats up to it
pub record Ridden (p : Plan) (s t : ℕ) (names : List LegName) (r : Ride) : Type 0 where
  pub first : Leg
  pub rest : List Leg
  pub goes : Goes p s t names first rest
  pub is_last : last first rest ≡ r.last
  pub taken : boats first rest ≡ r.boats
  pub in_time : r.last.comes < time_bound

-- or it breaks at one of them, wherever it should lead
abbrev pub Rides : Plan → ℕ → ℕ → List LegName → Result Ride Broken → Type 0
Rides p s t names (Ok r) = Ridden p s t names r
Rides p s t names (Err b) = (b.place < length names) × ((d : ℕ) → Breaking p s t d names b.place)

-- what the check says of a journey by names
abbrev pub Verdict : Plan → ℕ → ℕ → ℕ → List LegName → Result Mark Broken → Type 0
Verdict p s t d names (Ok m) = Reaching p s t d names m.arrival m.boats
Verdict p s t d names (Err b) = Breaking p s t d names b.place

-- `broken at 1`
abbrev pub broken_text : Broken → List ℕ
broken_text b = codes "broken at " ++ decimal b.place

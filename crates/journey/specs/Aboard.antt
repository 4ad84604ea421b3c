-- Journeys seen from their last leg: the legs that one can be aboard of with at most so many boats.
use Rattle.std.specs.Prelude.{◌≡◌, ℕ, ◌<◌, ◌≤◌, true}
use Rattle.plan.specs.declared.leg.Leg.{Leg}
use Rattle.plan.specs.Legs.{Plan, runs}
use Rattle.journey.specs.Steps.{stays, boards, begins}
use Rattle.journey.specs.Journeys.{in_plan}

-- Over any two relations of legs, free steps and paid ones. `Seed k b`: the leg b can be boarded from outside, with k
-- boats or fewer, b's own counted. A free step takes no boat more, a paid one takes one more. "At most" is in the
-- constructors, so that whoever is aboard with k boats is so with more, if the seeds are.
pub data AboardBy (Seed : ℕ → Leg → Type 0) (Free Paid : Leg → Leg → Type 0) (In : Leg → Type 0) : ℕ → Leg → Type 0 where
  start : {k : ℕ} {b : Leg} → Seed k b → In b → AboardBy Seed Free Paid In k b
  stay : {k : ℕ} {a b : Leg} → AboardBy Seed Free Paid In k a → Free a b → In b → AboardBy Seed Free Paid In k b
  board : {j k : ℕ} {a b : Leg} → AboardBy Seed Free Paid In j a → j < k → Paid a b → In b →
      AboardBy Seed Free Paid In k b

-- a leg that one can use: it is in the plan and runs
pub record Usable (p : Plan) (b : Leg) : Type 0 where
  pub known : in_plan b p.legs ≡ true
  pub going : runs b ≡ true

-- a journey from the pier s at the time t can begin with the leg, and has a boat for it
pub record Begun (p : Plan) (s t k : ℕ) (b : Leg) : Type 0 where
  pub enough : 1 ≤ k
  pub begun : begins p s t b ≡ true

abbrev pub Stayed : Leg → Leg → Type 0
Stayed a b = stays a b ≡ true

abbrev pub Boarded : Plan → Leg → Leg → Type 0
Boarded p a b = boards p a b ≡ true

-- some journey from the pier s at the time t ends with the leg and takes at most k boats
abbrev pub Aboard : Plan → ℕ → ℕ → ℕ → Leg → Type 0
Aboard p s t = AboardBy (Begun p s t) Stayed (Boarded p) (Usable p)

-- A plan that may be used, in the subject's own words.
use Rattle.std.specs.Prelude.{◌≡◌, ℕ, ◌<◌, ◌≤◌, List, length}
use Rattle.plan.specs.declared.leg.Leg.{Leg}
use Rattle.plan.specs.declared.walk.Walk.{Walk}
use Rattle.plan.specs.Legs.{Plan, leg, walk, change_at, piers, time_bound, name_bound}
use Rattle.plan.specs.Words.{Whole, plan_in}
use Rattle.plan.specs.Check.{most_piers, most_legs, most_walks}

-- the numbers of a leg are within their bounds, in a plan of so many piers
pub record LegWithin (n : ℕ) (a : Leg) : Type 0 where
  pub run : a.run < name_bound
  pub number : a.number < name_bound
  pub from : a.from < n
  pub to : a.to < n
  pub leaves : a.leaves < time_bound
  pub comes : a.comes < time_bound

pub record WalkWithin (n : ℕ) (w : Walk) : Type 0 where
  pub from : w.from < n
  pub to : w.to < n
  pub takes : w.takes < time_bound

-- every number is within its bounds, and no two legs have one run and number
pub record Sound (p : Plan) : Type 0 where
  pub legs : (i : ℕ) → i < length p.legs → LegWithin (piers p) (leg p i)
  pub apart : (i j : ℕ) → i < length p.legs → j < length p.legs →
      (leg p i).run ≡ (leg p j).run → (leg p i).number ≡ (leg p j).number → i ≡ j
  pub walks : (j : ℕ) → j < length p.walks → WalkWithin (piers p) (walk p j)
  pub changes : (s : ℕ) → s < piers p → change_at p s < time_bound

-- the plan has no more piers, legs and walks than it may have
pub record Few (p : Plan) : Type 0 where
  pub piers : piers p ≤ most_piers
  pub legs : length p.legs ≤ most_legs
  pub walks : length p.walks ≤ most_walks

-- the memory holds all of a plan that may be used
pub record Usable (xs : List ℕ) : Type 0 where
  pub long : 3 ≤ length xs
  pub whole : Whole xs
  pub few : Few (plan_in xs)
  pub sound : Sound (plan_in xs)

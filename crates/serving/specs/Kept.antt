-- What the rows of an index hold: a plan, laid out.
use Rattle.std.specs.Prelude.{ℕ, Bool, List, length, take}
use Rattle.plan.specs.declared.leg.Leg.{Leg}
use Rattle.plan.specs.declared.walk.Walk.{Walk}
use Rattle.plan.specs.Legs.{Plan, piers}
use Rattle.rounds.specs.Opened.{plan_of}
use Rattle.rounds.specs.Layout.{Laid, Alike, Chains}
use Rattle.itinerary.specs.Arrivals.{leg_to, walk_to}
use Rattle.serving.specs.declared.index.Index.{Index}

-- the plan at the front of the rows, with as many legs, walks and piers as the plan p has
abbrev pub front : Plan → List Leg → List Walk → List ℕ → Plan
front p legs walks change =
    plan_of (take (length p.legs) legs) (take (length p.walks) walks) (take (piers p) change)

-- the fronts of the rows lay out the plan p
pub record Kept (p : Plan) (legs : List Leg) (joins : List Bool) (walks : List Walk) (change first link : List ℕ) : Type 0 where
  pub alike : Alike p (front p legs walks change)
  pub laid : Laid (front p legs walks change) (take (length p.legs) joins) (take (piers p) first) (take (length p.walks) link)

-- the chains have exactly the legs and the walks at the fronts of the rows that come to each pier
pub record Coming (p : Plan) (legs : List Leg) (walks : List Walk) (last_leg prior_leg last_walk prior_walk : List ℕ) : Type 0 where
  pub of_legs : Chains (leg_to (take (length p.legs) legs)) (length (take (length p.legs) legs)) (piers p)
      (take (piers p) last_leg) (take (length p.legs) prior_leg) (length (take (length p.legs) legs))
  pub of_walks : Chains (walk_to (take (length p.walks) walks)) (length (take (length p.walks) walks)) (piers p)
      (take (piers p) last_walk) (take (length p.walks) prior_walk) (length (take (length p.walks) walks))

-- the rows of an index lay the plan out, and chain what comes to each pier
pub record Lays (p : Plan) (x : Index) : Type 0 where
  pub laid : Kept p x.legs x.joins x.walks x.change x.first x.link
  pub coming : Coming p x.legs x.walks x.last_leg x.prior_leg x.last_walk x.prior_walk

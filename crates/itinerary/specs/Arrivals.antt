-- The legs and the walks of a plan by the pier they come to.
use Rattle.std.specs.Prelude.{◌≡◌, ℕ, ◌≤◌, List, length, slice_index_or}
use Rattle.plan.specs.declared.leg.Leg.{Leg}
use Rattle.plan.specs.declared.walk.Walk.{Walk}
use Rattle.plan.specs.Legs.{Plan, no_leg, no_walk, piers}
use Rattle.plan.specs.Check.{most_piers, most_legs, most_walks}
use Rattle.rounds.specs.Layout.{Chains}
use Rattle.rounds.specs.declared.chains.Chain.{Chain}
use Rattle.itinerary.specs.declared.arrivals.Arrivals.{Arrivals}

-- the pier that the leg, or the walk, at a place comes to
abbrev pub leg_to : List Leg → ℕ → ℕ
leg_to legs i = (slice_index_or legs i no_leg).to

abbrev pub walk_to : List Walk → ℕ → ℕ
walk_to ws j = (slice_index_or ws j no_walk).to

-- a chain for each of n piers has exactly the things that come to it
pub record Chained (to : ℕ → ℕ) (n n_piers : ℕ) (c : Chain) : Type 0 where
  pub last_long : length c.last.now ≡ n_piers
  pub prior_long : length c.prior.now ≡ n
  pub chains : Chains to n n_piers c.last.now c.prior.now n

-- the chains have exactly the legs, and the walks, that come to each pier
pub record Arriving (p : Plan) (a : Arrivals) : Type 0 where
  pub legs : Chained (leg_to p.legs) (length p.legs) (piers p) a.legs
  pub walks : Chained (walk_to p.walks) (length p.walks) (piers p) a.walks

-- rows that any plan fits in which the check takes
pub record Ample (last_leg prior_leg last_walk prior_walk : List ℕ) : Type 0 where
  pub last_leg_room : most_piers ≤ length last_leg
  pub prior_leg_room : most_legs ≤ length prior_leg
  pub last_walk_room : most_piers ≤ length last_walk
  pub prior_walk_room : most_walks ≤ length prior_walk

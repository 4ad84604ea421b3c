-- How the rows of a laid out plan came from the plan.
use Rattle.std.specs.Prelude.{◌≡◌, ℕ, ◌<◌, ◌≤◌, Bool, List, length, slice_index, slice_index_or}
use Rattle.plan.specs.declared.leg.Leg.{Leg}
use Rattle.plan.specs.declared.walk.Walk.{Walk}
use Rattle.plan.specs.Legs.{Plan, no_leg, leg, piers}
use Rattle.plan.specs.Keys.{name_of, key_place}

-- the plan that the rows hold
abbrev pub plan_of : List Leg → List Walk → List ℕ → Plan
plan_of legs walks change = record { legs = legs; walks = walks; change = change }

-- rows of the lengths that the plan has, and places in them that a key and a link can tell
pub record Room (p : Plan) (legs : List Leg) (joins : List Bool) (walks : List Walk) (change first link : List ℕ) : Type 0 where
  pub few_legs : length legs ≤ 65536
  pub few_walks : length walks < 65536
  pub legs_long : length legs ≡ length p.legs
  pub joins_long : length joins ≡ length legs
  pub walks_long : length walks ≡ length p.walks
  pub change_long : length change ≡ piers p
  pub first_long : length first ≡ length change
  pub link_long : length link ≡ length walks

-- rows that the plan fits in
pub record Roomy (p : Plan) (legs : List Leg) (joins : List Bool) (walks : List Walk) (change first link : List ℕ) : Type 0 where
  pub legs_room : length p.legs ≤ length legs
  pub joins_room : length p.legs ≤ length joins
  pub walks_room : length p.walks ≤ length walks
  pub change_room : piers p ≤ length change
  pub first_room : piers p ≤ length first
  pub link_room : length p.walks ≤ length link

-- the place in the plan of the leg that the key at a place was made for
abbrev pub place_at : List ℕ → ℕ → ℕ
place_at keys c = key_place (slice_index keys c)

-- The legs of the plan stand in the row by rising run and number: at the place c the leg whose place in the plan the
-- key at c tells, and each leg of the plan at exactly one place.
pub record LegsLaid (p : Plan) (keys : List ℕ) (legs : List Leg) : Type 0 where
  pub long : length legs ≡ length p.legs
  pub is : (c : ℕ) → c < length legs → slice_index_or legs c no_leg ≡ leg p (place_at keys c)
  pub within : (c : ℕ) → c < length legs → place_at keys c < length p.legs
  pub all : (i : ℕ) → i < length p.legs → (c : ℕ) × (c < length legs) × (place_at keys c ≡ i)
  pub once : (c m : ℕ) → c < length legs → m < length legs → place_at keys c ≡ place_at keys m → c ≡ m
  pub rises : (c m : ℕ) → c < m → m < length legs → name_of (slice_index_or legs c no_leg) < name_of (slice_index_or legs m no_leg)

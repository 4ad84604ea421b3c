-- Which legs can be boarded in a round, and the row of those that still wait.
use Rattle.std.specs.Prelude.{◌≡◌, ℕ, suc, ◌<◌, ◌≤◌, Bool, true, List, nat_le, slice_index, slice_index_or}
use Rattle.plan.specs.declared.leg.Leg.{Leg}
use Rattle.plan.specs.Legs.{Plan, leg, runs}
use Rattle.journey.specs.Steps.{stays}

-- whoever is at the piers at the times of the row is in time for the leg
abbrev pub ready_for : List ℕ → Leg → Bool
ready_for ready b = nat_le (slice_index ready b.from) b.leaves

-- with so many boats the leg at i can be boarded: from outside, by who is ready in time, or by staying aboard from the
-- leg right before it, which has a level
pub data Opens (p : Plan) (seed : List ℕ) (boats : ℕ) (ready level : List ℕ) (i : ℕ) : Type 0 where
  from_outside : 1 ≤ slice_index seed i → slice_index seed i ≤ boats → Opens p seed boats ready level i
  from_pier : slice_index_or ready (leg p i).from 0 ≤ (leg p i).leaves → Opens p seed boats ready level i
  from_before : (j : ℕ) → suc j ≡ i → 0 < slice_index level j → stays (leg p j) (leg p i) ≡ true →
      Opens p seed boats ready level i

-- the first `left` of the row are, by place, the legs below n that run and have no level, but for those that leave
-- before the time t
pub record Waiting (p : Plan) (t : ℕ) (level waits : List ℕ) (left n : ℕ) : Type 0 where
  pub below : (m : ℕ) → m < left → slice_index waits m < n
  pub rises : (m l : ℕ) → m < l → l < left → slice_index waits m < slice_index waits l
  pub blank : (m : ℕ) → m < left → slice_index level (slice_index waits m) ≡ 0
  pub going : (m : ℕ) → m < left → runs (leg p (slice_index waits m)) ≡ true
  pub all : (j : ℕ) → j < n → slice_index level j ≡ 0 → runs (leg p j) ≡ true → t ≤ (leg p j).leaves →
      (m : ℕ) × (m < left) × (slice_index waits m ≡ j)

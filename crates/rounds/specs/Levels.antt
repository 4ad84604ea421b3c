-- Levels: for each leg the least boats with which one can be aboard of it, from a row of seeds.
use Rattle.std.specs.Prelude.{◌≡◌, ℕ, ◌<◌, ◌≤◌, List, length, slice_index, slice_index_or}
use Rattle.plan.specs.declared.leg.Leg.{Leg}
use Rattle.plan.specs.Legs.{Plan, leg}
use Rattle.journey.specs.Aboard.{AboardBy, Usable, Stayed, Boarded}

-- A row of seeds says for each leg with how many boats at least, its own counted, it can be boarded from outside, or 0
-- where it cannot.
pub record Seeded (p : Plan) (seed : List ℕ) (k : ℕ) (b : Leg) : Type 0 where
  pub place : ℕ
  pub within : place < length p.legs
  pub is : leg p place ≡ b
  pub some : 1 ≤ slice_index seed place
  pub enough : slice_index_or seed place 0 ≤ k

-- some legs from a seeded one on end with the leg and take at most k boats
abbrev pub AboardFrom : Plan → List ℕ → ℕ → Leg → Type 0
AboardFrom p seed = AboardBy (Seeded p seed) Stayed (Boarded p) (Usable p)

-- The levels up to k, where `A k b` says that with at most k boats one can be aboard of b: the least boats with which
-- one is aboard of the leg, or 0 where k do not suffice.
pub record Levels (A : ℕ → Leg → Type 0) (p : Plan) (k : ℕ) (level : List ℕ) : Type 0 where
  pub sound : (i : ℕ) → i < length p.legs → 0 < slice_index level i → A (slice_index level i) (leg p i) × (slice_index level i ≤ k)
  pub least : (i j : ℕ) → i < length p.legs → j ≤ k → A j (leg p i) → (0 < slice_index level i) × (slice_index level i ≤ j)

-- a row of seeds that the rounds can start from: no seeded leg leaves before the time t, and a leg that stands at two
-- places is seeded alike
pub record Sown (p : Plan) (t : ℕ) (seed : List ℕ) : Type 0 where
  pub late : (i : ℕ) → i < length p.legs → 1 ≤ slice_index seed i → t ≤ (leg p i).leaves
  pub alike : (i j : ℕ) → i < length p.legs → j < length p.legs → leg p i ≡ leg p j →
      slice_index seed i ≡ slice_index seed j

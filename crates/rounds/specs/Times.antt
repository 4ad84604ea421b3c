-- Earliest times, and what makes them earlier.
use Rattle.std.specs.Prelude.{◌≡◌, ℕ, ◌<◌, ◌≤◌, cond, ◌⊎◌, List, length, ◌≢◌, nat_lt, slice_index}
use Rattle.plan.specs.Legs.{Plan, piers}
use Rattle.journey.specs.Journeys.{Ends}

-- later than every time of a plan and every sum of two
abbrev pub never : ℕ
never = 1099511627776

-- the earliest of the times T; `never` or later where there is none
pub record Earliest (T : ℕ → Type 0) (x : ℕ) : Type 0 where
  pub given : x < never → T x
  pub least : (y : ℕ) → T y → x ≤ y

abbrev pub earlier : ℕ → ℕ → ℕ
earlier a b = cond (nat_lt a b) a b

-- a time x comes up at the pier s: what that makes of the earliest time y at the pier d
abbrev pub Put : ℕ → ℕ → ℕ → ℕ → ℕ → Type 0
Put s x d y y₁ = ((s ≡ d) × (y₁ ≡ earlier x y)) ⊎ ((s ≢ d) × (y₁ ≡ y))

-- and of a row with the earliest time at each pier
pub record Lowered (row : List ℕ) (s x : ℕ) (row₁ : List ℕ) : Type 0 where
  pub long : length row₁ ≡ length row
  pub cells : (d : ℕ) → d < length row → Put s x d (slice_index row d) (slice_index row₁ d)

-- for each pier the earliest time at which one is there without a boat, from the pier s at the time t
abbrev pub Outset : Plan → ℕ → ℕ → List ℕ → Type 0
Outset p s t row = (d : ℕ) → d < piers p → Earliest (Ends p d s t) (slice_index row d)

-- A plan laid out for questions: its legs by run and number, its walks chained by the pier they go from.
use Rattle.std.specs.Prelude.{◌≡◌, ℕ, suc, ◌-◌, ◌<◌, ◌≤◌, Bool, true, false, ◌&&◌, List, length, nat_lt, slice_index, slice_index_or}
use Rattle.plan.specs.declared.leg.Leg.{Leg}
use Rattle.plan.specs.declared.walk.Walk.{Walk}
use Rattle.plan.specs.Legs.{Plan, no_leg, no_walk, leg, walk, change_at, piers, runs, time_bound}
use Rattle.plan.specs.Sound.{LegWithin, WalkWithin}
use Rattle.journey.specs.Steps.{stays}
use Rattle.journey.specs.Journeys.{in_plan}

-- whether one may stay aboard for the leg i: it runs, and is the next of the run of the leg that stands right before it
abbrev pub is_joined : List Leg → ℕ → Bool
is_joined legs i =
    nat_lt 0 i && (runs (slice_index_or legs i no_leg) && stays (slice_index_or legs (i - 1) no_leg) (slice_index_or legs i no_leg))

-- a leg that is stayed aboard for stands right behind the one before it
abbrev pub InRuns : List Leg → Type 0
InRuns legs = (i j : ℕ) → i < length legs → j < length legs → stays (slice_index_or legs j no_leg) (slice_index_or legs i no_leg) ≡ true → suc j ≡ i

-- one more than the place of one of n things that belongs to the pier s, or 0
pub record ChainAt (pier : ℕ → ℕ) (n s at : ℕ) : Type 0 where
  pub within : at ≤ n
  pub of : (x : ℕ) → suc x ≡ at → pier x ≡ s

-- The chains of the first m of n things by the pier that each belongs to: for each pier its last one, and for each one
-- the one before it of the same pier. That `first` and `link` lie above every one of their pier below them is all that
-- is needed to miss none.
pub record Chains (pier : ℕ → ℕ) (n n_piers : ℕ) (first link : List ℕ) (m : ℕ) : Type 0 where
  pub first_at : (s : ℕ) → s < n_piers → ChainAt pier n s (slice_index first s)
  pub first_less : (s : ℕ) → s < n_piers → slice_index first s ≤ m
  pub first_all : (i : ℕ) → i < m → i < slice_index first (pier i)
  pub link_at : (i : ℕ) → i < m → ChainAt pier n (pier i) (slice_index link i)
  pub link_less : (i : ℕ) → i < m → slice_index link i ≤ i
  pub link_all : (i j : ℕ) → i < m → j < i → pier j ≡ pier i → j < slice_index link i

-- the walks by the pier they go from
abbrev pub walk_from : List Walk → ℕ → ℕ
walk_from ws j = (slice_index_or ws j no_walk).from

-- the rows that lay a plan out: the plan p itself, and what is known of it by place
pub record Laid (p : Plan) (joins : List Bool) (first link : List ℕ) : Type 0 where
  pub joins_long : length joins ≡ length p.legs
  pub first_long : length first ≡ piers p
  pub link_long : length link ≡ length p.walks
  pub legs : (i : ℕ) → i < length p.legs → LegWithin (piers p) (leg p i)
  pub walks : (j : ℕ) → j < length p.walks → WalkWithin (piers p) (walk p j)
  pub changes : (s : ℕ) → s < piers p → change_at p s < time_bound
  pub in_runs : InRuns p.legs
  pub joined : (i : ℕ) → i < length p.legs → slice_index_or joins i false ≡ is_joined p.legs i
  pub chained : Chains (walk_from p.walks) (length p.walks) (piers p) first link (length p.walks)

-- the same plan with its legs in another order
pub record Alike (p p₁ : Plan) : Type 0 where
  pub legs : (a : Leg) → in_plan a p.legs ≡ true → in_plan a p₁.legs ≡ true
  pub back : (a : Leg) → in_plan a p₁.legs ≡ true → in_plan a p.legs ≡ true
  pub walks : p₁.walks ≡ p.walks
  pub change : p₁.change ≡ p.change

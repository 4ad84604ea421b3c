-- What a search finds: of the legs from which one gets to a pier the one that comes first of those that a test takes.
use Rattle.std.specs.Prelude.{◌≡◌, ℕ, ◌<◌, Bool, true, false, ◌⊎◌, length, Some, None, Option}
use Rattle.plan.specs.Legs.{Plan, leg, walk}
use Rattle.itinerary.specs.Order.{before}

-- a walk leads from the one pier to the other
pub record ByWalk (p : Plan) (from to : ℕ) : Type 0 where
  pub place : ℕ
  pub within : place < length p.walks
  pub leaves_from : (walk p place).from ≡ from
  pub comes_to : (walk p place).to ≡ to

-- whoever is at the pier `from` gets to the pier `to`: it is the same, or a walk leads there
abbrev pub Near : Plan → ℕ → ℕ → Type 0
Near p to from = (from ≡ to) ⊎ ByWalk p from to

-- the leg at y is the one at x, or comes behind it
abbrev pub Behind : Plan → ℕ → ℕ → Type 0
Behind p x y = (leg p y ≡ leg p x) ⊎ (before (leg p x) (leg p y) ≡ true)

-- A test told of each leg of a kind whether it fits. The one at x does, and each other that does comes behind it.
pub record FirstToFit (p : Plan) (Kind : ℕ → Type 0) (Told : ℕ → Bool → Type 0) (n x : ℕ) : Type 0 where
  pub within : x < n
  pub fits : Told x true
  pub rest : (y : ℕ) → y < n → Kind y → Told y false ⊎ Behind p x y

-- the first that fits, or that none does
pub data Found (p : Plan) (Kind : ℕ → Type 0) (Told : ℕ → Bool → Type 0) (n : ℕ) : Option ℕ → Type 0 where
  none_fits : ((y : ℕ) → y < n → Kind y → Told y false) → Found p Kind Told n None
  first_fits : {x : ℕ} → FirstToFit p Kind Told n x → Found p Kind Told n (Some x)

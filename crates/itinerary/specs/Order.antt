-- The order of journeys, and the itinerary: of all journeys that reach a mark the one that comes first.
use Rattle.std.specs.Prelude.{◌≡◌, ℕ, Bool, true, false, ◌&&◌, ◌||◌, ◌⊎◌, List, [], ◌∷◌, reverse, ◌==◌, nat_lt}
use Rattle.plan.specs.declared.leg.Leg.{Leg}
use Rattle.plan.specs.Legs.{Plan}
use Rattle.journey.specs.declared.question.Question.{Question}
use Rattle.journey.specs.Journeys.{same_leg, boats, last, Ends, Journey}

-- of two legs the one that comes first: it leaves later; of equals it has the smaller run, then the smaller number
abbrev pub before : Leg → Leg → Bool
before a b =
    nat_lt b.leaves a.leaves
    || (a.leaves == b.leaves && (nat_lt a.run b.run || (a.run == b.run && nat_lt a.number b.number)))

-- Of two lists of legs the one that comes first: the first leg that differs decides, and where one has no more legs it
-- comes before the other.
unfoldable pub precedes : List Leg → List Leg → Bool
precedes [] [] = false
precedes [] (y ∷ ys) = true
precedes (x ∷ xs) [] = false
precedes (x ∷ xs) (y ∷ ys) = before x y || (same_leg x y && precedes xs ys)

-- journeys are compared from their last leg back
abbrev pub sooner_named : List Leg → List Leg → Bool
sooner_named legs others = precedes (reverse legs) (reverse others)

-- the legs, told forwards, are those of a journey that answers the question and is there at a time with so many boats
pub data Reaching (p : Plan) (q : Question) (u : ℕ) : ℕ → List Leg → Type 0 where
  on_foot_alone : Ends p q.to q.from q.time u → Reaching p q u 0 []
  by_legs_there : {k : ℕ} {first : Leg} {rest : List Leg} → Journey p q.from q.time first rest →
      Ends p q.to (last first rest).to (last first rest).comes u → boats first rest ≡ k →
      Reaching p q u k (first ∷ rest)

-- of all journeys that are there at a time with so many boats the one that comes first
pub record Itinerary (p : Plan) (q : Question) (u k : ℕ) (legs : List Leg) : Type 0 where
  pub reaching : Reaching p q u k legs
  pub first : (others : List Leg) → Reaching p q u k others →
      (others ≡ legs) ⊎ (sooner_named legs others ≡ true)

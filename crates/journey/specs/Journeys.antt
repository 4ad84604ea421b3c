-- Journeys: legs that follow each other, how many boats they take, and what they reach.
use Rattle.std.specs.Prelude.{◌≡◌, ℕ, suc, ◌+◌, ◌<◌, ◌≤◌, Bool, true, false, cond, ◌&&◌, ◌||◌, List, [], ◌∷◌, length, ◌==◌}
use Rattle.plan.specs.declared.leg.Leg.{Leg}
use Rattle.plan.specs.Legs.{Plan, runs, walk, same_name}
use Rattle.journey.specs.declared.question.Question.{Question}
use Rattle.journey.specs.Steps.{stays, follows, begins}

-- the same leg, in all six numbers
abbrev pub same_leg : Leg → Leg → Bool
same_leg a b =
    (a.run == b.run) && (a.number == b.number
    && (a.from == b.from && (a.to == b.to && (a.leaves == b.leaves && a.comes == b.comes))))

unfoldable pub in_plan : Leg → List Leg → Bool
in_plan a [] = false
in_plan a (b ∷ bs) = same_leg a b || in_plan a bs

-- run and number name one leg of the plan
abbrev pub NamedOnce : List Leg → Type 0
NamedOnce ls = (a b : Leg) → in_plan a ls ≡ true → in_plan b ls ≡ true → same_name a b ≡ true → a ≡ b

-- The legs of a journey are told forwards: the first, and the list of those after it.

-- each leg after the first follows the one before it, is in the plan and runs
unfoldable pub joined : Plan → Leg → List Leg → Bool
joined p a [] = true
joined p a (b ∷ bs) = follows p a b && (in_plan b p.legs && (runs b && joined p b bs))

-- One boat, and one more for each leg that is not stayed aboard for. Where one can stay it is a stay, whatever else is
-- possible.
unfoldable pub boats : Leg → List Leg → ℕ
boats a [] = 1
boats a (b ∷ bs) = cond (stays a b) (boats b bs) (suc (boats b bs))

unfoldable pub last : Leg → List Leg → Leg
last a [] = a
last a (b ∷ bs) = last b bs

-- who is at the pier s at the time t is at the pier d at the time u: that is the pier, or one walk leads there
pub data Ends (p : Plan) (d : ℕ) : ℕ → ℕ → ℕ → Type 0 where
  at_once : {t : ℕ} → Ends p d d t t
  on_foot : {s t : ℕ} (j : ℕ) → j < length p.walks → (walk p j).from ≡ s → (walk p j).to ≡ d →
      Ends p d s t (t + (walk p j).takes)

-- a journey by boat from the pier s at the time t
pub record Journey (p : Plan) (s t : ℕ) (first : Leg) (rest : List Leg) : Type 0 where
  pub begun : begins p s t first ≡ true
  pub known : in_plan first p.legs ≡ true
  pub going : runs first ≡ true
  pub linked : joined p first rest ≡ true

-- some journey that answers the question is there at a time, with so many boats
pub data Reached (p : Plan) (q : Question) : ℕ → ℕ → Type 0 where
  without_boat : {u : ℕ} → Ends p q.to q.from q.time u → Reached p q u 0
  by_legs : {u : ℕ} (first : Leg) (rest : List Leg) → Journey p q.from q.time first rest →
      Ends p q.to (last first rest).to (last first rest).comes u → Reached p q u (boats first rest)

-- some journey that answers the question is there by a time, with at most so many boats
pub record ReachedBy (p : Plan) (q : Question) (by most : ℕ) : Type 0 where
  pub arrival : ℕ
  pub taken : ℕ
  pub found : Reached p q arrival taken
  pub no_later : arrival ≤ by
  pub no_more : taken ≤ most

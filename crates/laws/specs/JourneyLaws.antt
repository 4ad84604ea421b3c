-- The laws of journeys: what holds of them in every plan.
use Rattle.std.specs.Prelude.{◌≡◌, ℕ, ◌+◌, ◌≤◌, Bool, true, false, ◌||◌, List, [], ◌∷◌, ◌++◌, Result}
use Rattle.plan.specs.declared.leg.Leg.{Leg}
use Rattle.plan.specs.Legs.{Plan, same_name, with_legs}
use Rattle.journey.specs.declared.question.Question.{Question}
use Rattle.plan.specs.declared.name.LegName.{LegName}
use Rattle.journey.specs.declared.checking.Broken.{Broken}
use Rattle.marks.specs.declared.mark.Mark.{Mark}
use Rattle.journey.specs.Steps.{stays, change_for}
use Rattle.journey.specs.Journeys.{in_plan, boats, last, Ends, Journey, Reached, ReachedBy, NamedOnce}
use Rattle.journey.specs.Checked.{Verdict}

-- the question from the pier s at the time t to the pier d
abbrev pub asked : ℕ → ℕ → ℕ → Question
asked s t d = record { from = s; time = t; to = d }

-- Who sets out later is no better off: for every journey of theirs there is one that sets out at the time of the
-- question, is there no later and takes no more boats.
abbrev pub at_time : Question → ℕ → Question
at_time q t = asked q.from t q.to

abbrev pub LaterNoBetter : Type 0
LaterNoBetter =
    (p : Plan) (q : Question) (u arrival taken : ℕ) → q.time ≤ u → Reached p (at_time q u) arrival taken →
    ReachedBy p q arrival taken

-- With more legs every journey is still there.
abbrev pub AllIn : List Leg → List Leg → Type 0
AllIn ls ms = (a : Leg) → in_plan a ls ≡ true → in_plan a ms ≡ true

abbrev pub MoreLegs : Type 0
MoreLegs =
    (p : Plan) (ls : List Leg) (q : Question) (arrival taken : ℕ) → AllIn p.legs ls → Reached p q arrival taken →
    Reached (with_legs p ls) q arrival taken

-- Two journeys are one, if the second sets out from where the first comes when a change has been made there. Their
-- boats add up unless the second's first leg is stayed aboard for; then it is one boat less. So the whole never takes
-- more than the sum.
pub record PutTogether (p : Plan) (s t : ℕ) (a : Leg) (xs : List Leg) (b : Leg) (ys : List Leg) : Type 0 where
  pub whole : Journey p s t a (xs ++ b ∷ ys)
  pub same_last : last a (xs ++ b ∷ ys) ≡ last b ys
  pub at_most : boats a (xs ++ b ∷ ys) ≤ boats a xs + boats b ys
  pub adds_up : stays (last a xs) b ≡ false → boats a (xs ++ b ∷ ys) ≡ boats a xs + boats b ys
  pub one_less : stays (last a xs) b ≡ true → boats a (xs ++ b ∷ ys) + 1 ≡ boats a xs + boats b ys
  pub arrives_by : (d u : ℕ) → Ends p d (last b ys).to (last b ys).comes u →
      ReachedBy p (asked s t d) u (boats a xs + boats b ys)
  pub arrives : (d u : ℕ) → Ends p d (last b ys).to (last b ys).comes u → stays (last a xs) b ≡ false →
      Reached p (asked s t d) u (boats a xs + boats b ys)

abbrev pub InTwo : Type 0
InTwo =
    (p : Plan) (s t u : ℕ) (a : Leg) (xs : List Leg) (b : Leg) (ys : List Leg) → Journey p s t a xs →
    (last a xs).comes + change_for p (last a xs) b ≤ u → Journey p (last a xs).to u b ys → PutTogether p s t a xs b ys

-- Nobody is there before setting out.
abbrev pub NotBefore : Type 0
NotBefore = (p : Plan) (q : Question) (arrival taken : ℕ) → Reached p q arrival taken → q.time ≤ arrival

-- No journey needs a leg twice, if run and number name one leg of the plan: there is another with the same last leg,
-- so that it reaches the same, with no more boats and no run and number twice.
unfoldable pub named_in : Leg → List Leg → Bool
named_in a [] = false
named_in a (b ∷ bs) = same_name a b || named_in a bs

unfoldable pub named_twice : List Leg → Bool
named_twice [] = false
named_twice (a ∷ bs) = named_in a bs || named_twice bs

pub record JourneyOnce (p : Plan) (s t : ℕ) (end : Leg) (most : ℕ) : Type 0 where
  pub first : Leg
  pub rest : List Leg
  pub made : Journey p s t first rest
  pub same_last : last first rest ≡ end
  pub few : boats first rest ≤ most
  pub once : named_twice (first ∷ rest) ≡ false

abbrev pub NoLegTwice : Type 0
NoLegTwice =
    (p : Plan) (s t : ℕ) (a : Leg) (xs : List Leg) → NamedOnce p.legs → Journey p s t a xs →
    JourneyOnce p s t (last a xs) (boats a xs)

-- Of a journey told by the names of its legs one thing alone is true, if run and number name one leg of the plan: that
-- it reaches the pier, at one time and with one count of boats, or that it breaks, at one place.
abbrev pub OneVerdict : Type 0
OneVerdict =
    (p : Plan) (s t d : ℕ) (names : List LegName) (r r₁ : Result Mark Broken) → NamedOnce p.legs →
    Verdict p s t d names r → Verdict p s t d names r₁ → r ≡ r₁

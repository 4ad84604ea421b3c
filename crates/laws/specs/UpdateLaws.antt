-- The laws of updates: delays add up, an extra leg makes nobody worse off and a cancelled one nobody better, and what
-- still goes is a journey.
use Rattle.std.specs.Prelude.{◌≡◌, ℕ, ◌+◌, true, List, ◌∷◌, map, Ok}
use Rattle.std.specs.List.{AllByRecursion}
use Rattle.plan.specs.declared.leg.Leg.{Leg}
use Rattle.plan.specs.Legs.{Plan, name}
use Rattle.plan.specs.declared.name.LegName.{LegName}
use Rattle.journey.specs.declared.question.Question.{Question}
use Rattle.journey.specs.Journeys.{in_plan, boats, last, Ends, Journey, Reached, NamedOnce}
use Rattle.marks.specs.declared.mark.Mark.{Mark}
use Rattle.marks.specs.Marks.{Among, covered}
use Rattle.rounds.specs.Answers.{Answer}
use Rattle.itinerary.specs.Order.{Itinerary}
use Rattle.updates.specs.declared.update.Update.TheVariants.{Delay, Cancel, Extra}
use Rattle.updates.specs.Updates.{after, update_checked}
use Rattle.updates.specs.Still.{StillGoes}
use Rattle.laws.specs.JourneyLaws.{asked}

-- ---- delays

-- Delays from one leg on add up: two of them leave the plan that one of both times together leaves, and
-- both are done exactly if that one is.
pub record AddedUp (p : Plan) (n : LegName) (d e : ℕ) : Type 0 where
  pub plan : after (after p (Delay n d)) (Delay n e) ≡ after p (Delay n (d + e))
  pub done_by_one : update_checked p (Delay n d) ≡ Ok tt →
      update_checked (after p (Delay n d)) (Delay n e) ≡ Ok tt → update_checked p (Delay n (d + e)) ≡ Ok tt
  pub done_by_two : update_checked p (Delay n (d + e)) ≡ Ok tt →
      (update_checked p (Delay n d) ≡ Ok tt) × (update_checked (after p (Delay n d)) (Delay n e) ≡ Ok tt)

abbrev pub DelaysAdd : Type 0
DelaysAdd = (p : Plan) (n : LegName) (d e : ℕ) → AddedUp p n d e

-- any two delays may come in either order
abbrev pub DelaysSwap : Type 0
DelaysSwap =
    (p : Plan) (n : LegName) (d : ℕ) (m : LegName) (e : ℕ) →
    after (after p (Delay n d)) (Delay m e) ≡ after (after p (Delay m e)) (Delay n d)

-- ---- legs that come and go

-- An extra leg keeps every journey. So each mark of the answer before it has one after it that is no worse.
pub record ExtraKeeps (p : Plan) (a : Leg) (q : Question) : Type 0 where
  pub reached : (arrival taken : ℕ) → Reached p q arrival taken → Reached (after p (Extra a)) q arrival taken
  pub no_worse_off : (most : ℕ) (ms ns : List Mark) → Answer p most q ms → Answer (after p (Extra a)) most q ns →
      (m : Mark) → Among m ms → covered m ns ≡ true

abbrev pub ExtraLeg : Type 0
ExtraLeg = (p : Plan) (a : Leg) (q : Question) → ExtraKeeps p a q

-- A cancelled leg makes no journey that was not there. So each mark of the answer after it had one before it that is no
-- worse.
pub record CancelAddsNone (p : Plan) (n : LegName) (q : Question) : Type 0 where
  pub reached : (arrival taken : ℕ) → Reached (after p (Cancel n)) q arrival taken → Reached p q arrival taken
  pub no_better_off : (most : ℕ) (ms ns : List Mark) → Answer p most q ms → Answer (after p (Cancel n)) most q ns →
      (m : Mark) → Among m ns → covered m ms ≡ true

abbrev pub CancelledLeg : Type 0
CancelledLeg = (p : Plan) (n : LegName) (q : Question) → CancelAddsNone p n q

-- ---- itineraries after updates

-- legs of the plan as it is now have these names
pub record LegsNow (p : Plan) (names : List LegName) (first : Leg) (rest : List Leg) : Type 0 where
  pub known : AllByRecursion (λ a. in_plan a p.legs ≡ true) (first ∷ rest)
  pub named : names ≡ map name (first ∷ rest)

-- the legs that have these names now are a journey, and where it ends at a pier it is there with its boats
pub record GoesNow (p : Plan) (s t : ℕ) (names : List LegName) : Type 0 where
  pub first : Leg
  pub rest : List Leg
  pub now : LegsNow p names first rest
  pub made : Journey p s t first rest
  pub reaches : (d u : ℕ) → Ends p d (last first rest).to (last first rest).comes u →
      Reached p (asked s t d) u (boats first rest)

-- What still goes, with its legs as they are now, is a journey of the plan as it is.
abbrev pub StillAJourney : Type 0
StillAJourney =
    (p : Plan) (s t : ℕ) (n : LegName) (ns : List LegName) → StillGoes p s t (n ∷ ns) → GoesNow p s t (n ∷ ns)

-- And nothing else does: if run and number name one leg of the plan, names still go exactly where the legs that have
-- them now are a journey.
abbrev pub StillExact : Type 0
StillExact =
    (p : Plan) (s t : ℕ) (names : List LegName) (first : Leg) (rest : List Leg) → NamedOnce p.legs →
    LegsNow p names first rest →
    (StillGoes p s t names → Journey p s t first rest) × (Journey p s t first rest → StillGoes p s t names)

-- an itinerary goes by the plan that it was told by
abbrev pub ToldGoes : Type 0
ToldGoes =
    (p : Plan) (q : Question) (u k : ℕ) (legs : List Leg) → Itinerary p q u k legs →
    StillGoes p q.from q.time (map name legs)

-- With more legs every journey is still there.
use Rattle.std.proofs.Common.{◌≡◌, ℕ, true, List, [], ◌∷◌}
use Rattle.plan.specs.declared.leg.Leg.{Leg}
use Rattle.plan.specs.Legs.{Plan, with_legs}
use Rattle.journey.specs.Journeys.{joined, Ends, Journey}
use Rattle.journey.specs.Journeys.Ends.{at_once, on_foot}
use Rattle.journey.specs.Journeys.Reached.{without_boat, by_legs}
use Rattle.journey.proofs.Chains.{joined_none, joined_says, joined_more}
use Rattle.laws.specs.JourneyLaws.{AllIn, MoreLegs}

pub joined_with : (p : Plan) (ls : List Leg) → AllIn p.legs ls → (a : Leg) (bs : List Leg) →
    joined p a bs ≡ true → joined (with_legs p ls) a bs ≡ true
joined_with p ls h a [] e = joined_none (with_legs p ls) a
joined_with p ls h a (b ∷ bs) e =
    let l = joined_says p a b bs e in
    joined_more (with_legs p ls) a b bs (record {
      follow = l.follow;
      known = h b l.known;
      going = l.going;
      linked = joined_with p ls h b bs l.linked;
    })

pub ends_with : {p : Plan} (ls : List Leg) {d s t u : ℕ} → Ends p d s t u → Ends (with_legs p ls) d s t u
ends_with ls at_once = at_once
ends_with ls (on_foot j h e f) = on_foot j h e f

pub journey_with : (p : Plan) (ls : List Leg) → AllIn p.legs ls → {s t : ℕ} {a : Leg} {bs : List Leg} →
    Journey p s t a bs → Journey (with_legs p ls) s t a bs
journey_with p ls h {a = a} {bs = bs} j = record {
  begun = j.begun;
  known = h a j.known;
  going = j.going;
  linked = joined_with p ls h a bs j.linked;
}

-- Each leg is still in the plan, and what follows what depends on the legs themselves, the walks and the changes alone.
pub more_legs_keep_journeys : MoreLegs
more_legs_keep_journeys p ls q arrival taken h (without_boat e) = without_boat (ends_with ls e)
more_legs_keep_journeys p ls q arrival taken h (by_legs first rest j e) =
    by_legs first rest (journey_with p ls h j) (ends_with ls e)

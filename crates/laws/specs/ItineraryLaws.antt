-- The laws of itineraries: each mark of an answer has exactly one, which names no leg twice.
use Rattle.std.specs.Prelude.{◌≡◌, ℕ, true, false, ◌⊎◌, List, ◌≢◌}
use Rattle.std.specs.List.{AllByRecursion}
use Rattle.plan.specs.declared.leg.Leg.{Leg}
use Rattle.plan.specs.Legs.{Plan}
use Rattle.journey.specs.declared.question.Question.{Question}
use Rattle.journey.specs.Journeys.{in_plan, Reached, NamedOnce}
use Rattle.marks.specs.declared.mark.Mark.{Mark}
use Rattle.marks.specs.Marks.{Among}
use Rattle.rounds.specs.Answers.{Answer}
use Rattle.itinerary.specs.Order.{sooner_named, Reaching, Itinerary}
use Rattle.laws.specs.JourneyLaws.{named_twice}

-- a mark has at most one
abbrev pub OneItinerary : Type 0
OneItinerary =
    (p : Plan) (q : Question) (u k : ℕ) (legs others : List Leg) → Itinerary p q u k legs → Itinerary p q u k others →
    legs ≡ others

-- the order of journeys: never both ways; and of two lists of legs of a plan one comes first, or they are the same
abbrev pub JourneysOrdered : Type 0
JourneysOrdered =
    ((legs others : List Leg) → sooner_named legs others ≡ true → sooner_named others legs ≢ true)
    × ((p : Plan) (legs others : List Leg) → NamedOnce p.legs → AllByRecursion (λ a. in_plan a p.legs ≡ true) legs →
    AllByRecursion (λ a. in_plan a p.legs ≡ true) others →
    (legs ≡ others) ⊎ ((sooner_named legs others ≡ true) ⊎ (sooner_named others legs ≡ true)))

-- For each mark of an answer there is an itinerary, in a plan of any size in which run and number name one leg.
abbrev pub AlwaysAnItinerary : Type 0
AlwaysAnItinerary =
    (p : Plan) (most : ℕ) (q : Question) (ms : List Mark) (m : Mark) → NamedOnce p.legs → Answer p most q ms →
    Among m ms → (legs : List Leg) × Itinerary p q m.arrival m.boats legs

-- an itinerary is a journey that is there at the mark's arrival with its boats
abbrev pub ItineraryReaches : Type 0
ItineraryReaches = (p : Plan) (q : Question) (u k : ℕ) (legs : List Leg) → Itinerary p q u k legs → Reached p q u k

-- A journey that reaches a mark of the answer has no run and number twice, and so its itinerary has none.
abbrev pub MarksOnce : Type 0
MarksOnce =
    (p : Plan) (most : ℕ) (q : Question) (ms : List Mark) (m : Mark) (legs : List Leg) → NamedOnce p.legs →
    Answer p most q ms → Among m ms → Reaching p q m.arrival m.boats legs → named_twice legs ≡ false

-- What the office says to a question, in full.
use Rattle.std.specs.Prelude.{◌≡◌, ℕ, List, [], ◌∷◌, ◌++◌, Ok, Err, vec_items, Result}
use Rattle.plan.specs.declared.leg.Leg.{Leg}
use Rattle.plan.specs.declared.refusal.Refusal.{Refusal}
use Rattle.plan.specs.Legs.{Plan}
use Rattle.journey.specs.declared.question.Question.{Question}
use Rattle.marks.specs.declared.mark.Mark.{Mark}
use Rattle.marks.specs.Fronts.{marks_of}
use Rattle.rounds.specs.declared.query.Query.{Query}
use Rattle.rounds.specs.Answers.{Answer}
use Rattle.itinerary.specs.Order.{Itinerary}
use Rattle.itinerary.specs.Named.{itinerary_words}
use Rattle.serving.specs.declared.response.Response.{Response}
use Rattle.serving.specs.declared.response.Response.TheVariants.{Marks, Updated, Looked}

-- the itinerary for each mark, one behind the other: how many legs, and the run and the number of each
pub data Itineraries (p : Plan) (q : Question) : List Mark → List ℕ → Type 0 where
  no_marks : Itineraries p q [] []
  and_mark : {ms : List Mark} {ns : List ℕ} {m : Mark} {legs : List Leg} → Itineraries p q ms ns →
      Itinerary p q m.arrival m.boats legs → Itineraries p q (ms ++ m ∷ []) (ns ++ itinerary_words legs)

-- these marks answer the question, and these are their itineraries
pub record Told (p : Plan) (a : Query) (ms : List Mark) (ns : List ℕ) : Type 0 where
  pub answer : Answer p a.most a.question ms
  pub itineraries : Itineraries p a.question ms ns

-- what is said to a question that was read, or refused
abbrev pub AnsweredWith : Result Query Refusal → Plan → Result Response Refusal → Type 0
AnsweredWith (Err e) p r = r ≡ Err e
AnsweredWith (Ok a) p (Ok (Marks f v)) = Told p a (marks_of f) (vec_items v)
AnsweredWith (Ok a) p (Ok Updated) = ⊥
AnsweredWith (Ok a) p (Ok (Looked w)) = ⊥
AnsweredWith (Ok a) p (Err e) = ⊥

-- What is told of the itinerary for a mark, over the numbers that the caller lends.
use Rattle.std.specs.Prelude.{◌≡◌, ℕ, ◌<◌, ◌≤◌, List, [], ◌∷◌, length, Ok, Err, Result}
use Rattle.plan.specs.declared.leg.Leg.{Leg}
use Rattle.plan.specs.declared.refusal.Refusal.{Refusal}
use Rattle.plan.specs.declared.refusal.Refusal.TheVariants.{ShortRow, NoMark}
use Rattle.plan.specs.Legs.{Plan}
use Rattle.plan.specs.Words.{plan_in}
use Rattle.journey.specs.declared.question.Question.{Question}
use Rattle.marks.specs.declared.mark.Mark.{Mark}
use Rattle.marks.specs.Marks.{Among}
use Rattle.marks.specs.Row.{over}
use Rattle.rounds.specs.declared.query.Query.{Query}
use Rattle.rounds.specs.Answers.{Answer}
use Rattle.rounds.specs.Entry.{Reply, asked}
use Rattle.itinerary.specs.Order.{Itinerary}

-- run and number of each leg
unfoldable pub names_words : List Leg → List ℕ
names_words [] = []
names_words (a ∷ rest) = a.run ∷ a.number ∷ names_words rest

-- how many legs, and then their names
abbrev pub itinerary_words : List Leg → List ℕ
itinerary_words legs = length legs ∷ names_words legs

-- a shorter row is refused: the count and the names of as many legs as a plan may have do not fit
abbrev pub itinerary_room : ℕ
itinerary_room = 2049

-- the legs of the itinerary stand in the row, their count and two numbers a leg, and past them what it held
pub record Written (p : Plan) (q : Question) (m : Mark) (row : List ℕ) (n : ℕ) (row₁ : List ℕ) : Type 0 where
  pub legs : List Leg
  pub itinerary : Itinerary p q m.arrival m.boats legs
  pub many : n ≡ length legs
  pub after : row₁ ≡ over (itinerary_words legs) row

-- A row that is too short is refused, then a mark that is none of the answer's, and the row is as it was. Else the
-- itinerary for the mark stands in the row.
pub data Named (p : Plan) (a : Query) (m : Mark) (row : List ℕ) (r : Reply) (row₁ : List ℕ) : Type 0 where
  row_short : length row < itinerary_room → r ≡ Err (ShortRow (length row)) → row₁ ≡ row → Named p a m row r row₁
  not_told : itinerary_room ≤ length row → (marks : List Mark) → Answer p a.most a.question marks →
      (Among m marks → ⊥) → r ≡ Err (NoMark m.boats) → row₁ ≡ row → Named p a m row r row₁
  named : itinerary_room ≤ length row → (marks : List Mark) → Answer p a.most a.question marks → Among m marks →
      (n : ℕ) → Written p a.question m row n row₁ → r ≡ Ok n → Named p a m row r row₁

abbrev pub NamedBy : Result Query Refusal → Plan → Mark → List ℕ → Reply → List ℕ → Type 0
NamedBy (Err e) p m row r row₁ = (r ≡ Err e) × (row₁ ≡ row)
NamedBy (Ok a) p m row r row₁ = Named p a m row r row₁

-- what is told for a mark of the answer to a question: the reply, and the whole row
abbrev pub JourneyNamed : List ℕ → List ℕ → Mark → List ℕ → Reply → List ℕ → Type 0
JourneyNamed xs qs m row r row₁ = NamedBy (asked xs qs) (plan_in xs) m row r row₁

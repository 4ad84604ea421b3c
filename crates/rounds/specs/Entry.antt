-- What a question is told, over the numbers that the caller lends.
use Rattle.std.specs.Prelude.{◌≡◌, ℕ, List, Ok, Err, Result}
use Rattle.plan.specs.declared.refusal.Refusal.{Refusal}
use Rattle.plan.specs.Legs.{Plan, piers}
use Rattle.plan.specs.Words.{plan_in}
use Rattle.plan.specs.Check.{then, plan_checked}
use Rattle.plan.specs.Refusals.{number_of, place_of}
use Rattle.marks.specs.declared.mark.Mark.{Mark}
use Rattle.marks.specs.declared.front.Front.{Front}
use Rattle.marks.specs.Fronts.{marks_of}
use Rattle.marks.specs.Row.{row_reply, row_after}
use Rattle.rounds.specs.declared.query.Query.{Query}
use Rattle.rounds.specs.Query.{query_checked}
use Rattle.rounds.specs.Answers.{Answer}

-- what a caller is told: how many were written, or why nothing was done
abbrev pub Reply : Type 0
Reply = Result ℕ Refusal

-- in numbers: 0 where it is done, else the refusal's number; and the count or the place
abbrev pub reply_number : Reply → ℕ
reply_number (Ok n) = 0
reply_number (Err e) = number_of e

abbrev pub reply_value : Reply → ℕ
reply_value (Ok n) = n
reply_value (Err e) = place_of e

-- the question that the numbers ask of the plan that the words hold, or the first refusal that applies
abbrev pub asked : List ℕ → List ℕ → Result Query Refusal
asked xs qs = then (plan_checked xs) (λ _. query_checked (piers (plan_in xs)) qs)

-- the marks of the answer, or the refusal
abbrev pub MarkedBy : Result Query Refusal → Plan → Result Front Refusal → Type 0
MarkedBy (Err e) p r = r ≡ Err e
MarkedBy (Ok a) p (Ok f) = Answer p a.most a.question (marks_of f)
MarkedBy (Ok a) p (Err e) = ⊥

-- the marks of the answer stand in the row: their count and two numbers a mark, and past them what it held; a row that
-- is too short is refused and is as it was
pub record Told (p : Plan) (a : Query) (row : List ℕ) (r : Reply) (row₁ : List ℕ) : Type 0 where
  pub marks : List Mark
  pub answer : Answer p a.most a.question marks
  pub reply : r ≡ row_reply marks row
  pub after : row₁ ≡ row_after marks row

abbrev pub AnsweredBy : Result Query Refusal → Plan → List ℕ → Reply → List ℕ → Type 0
AnsweredBy (Err e) p row r row₁ = (r ≡ Err e) × (row₁ ≡ row)
AnsweredBy (Ok a) p row r row₁ = Told p a row r row₁

-- a question is answered: the reply, and the whole row
abbrev pub Answered : List ℕ → List ℕ → List ℕ → Reply → List ℕ → Type 0
Answered xs qs row r row₁ = AnsweredBy (asked xs qs) (plan_in xs) row r row₁

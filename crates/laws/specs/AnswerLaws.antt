-- The laws of answers: each question has exactly one, in every plan.
use Rattle.std.specs.Prelude.{◌≡◌, ℕ, ◌≤◌, List, ◌++◌}
use Rattle.plan.specs.Legs.{Plan}
use Rattle.journey.specs.declared.question.Question.{Question}
use Rattle.marks.specs.declared.mark.Mark.{Mark}
use Rattle.marks.specs.Answers.{up_to}
use Rattle.rounds.specs.Answers.{Answer}
use Rattle.laws.specs.Computed.{answer_of}

-- a question has at most one answer
abbrev pub OneAnswerOfPlans : Type 0
OneAnswerOfPlans =
    (p : Plan) (most : ℕ) (q : Question) (ms ns : List Mark) → Answer p most q ms → Answer p most q ns → ms ≡ ns

-- the answer for fewer boats is the marks of the answer that have no more boats, and they are its beginning
abbrev pub FewerBoatsOfPlans : Type 0
FewerBoatsOfPlans =
    (p : Plan) (q : Question) (few most : ℕ) (ms : List Mark) → few ≤ most → Answer p most q ms →
    Answer p few q (up_to few ms) × ((rest : List Mark) × (ms ≡ up_to few ms ++ rest))

-- there is an answer to every question, in a plan of any size
abbrev pub AlwaysAnswered : Type 0
AlwaysAnswered = (p : Plan) (most : ℕ) (q : Question) → (ms : List Mark) × Answer p most q ms

-- and the one that is computed, leg by leg and boat by boat, is the answer
abbrev pub ComputedAnswers : Type 0
ComputedAnswers = (p : Plan) (most : ℕ) (q : Question) → Answer p most q (answer_of p most q)

-- The answer to a question, and the marks that are reached from a row of seeds.
use Rattle.std.specs.Prelude.{◌≡◌, ℕ, ◌<◌, cond, List, length, slice_index}
use Rattle.plan.specs.declared.leg.Leg.{Leg}
use Rattle.plan.specs.Legs.{Plan, leg, piers, time_bound}
use Rattle.journey.specs.declared.question.Question.{Question}
use Rattle.journey.specs.Steps.{begins}
use Rattle.journey.specs.Journeys.{Ends, Reached}
use Rattle.marks.specs.declared.mark.Mark.{Mark}
use Rattle.marks.specs.Answers.{AnswerOf}
use Rattle.rounds.specs.Levels.{AboardFrom}
use Rattle.rounds.specs.Times.{never}

-- some journey that answers the question has this mark
abbrev pub MarkReached : Plan → Question → Mark → Type 0
MarkReached p q m = Reached p q m.arrival m.boats

-- the answer to a question: with at most so many boats these marks are the ones worth telling
abbrev pub Answer : Plan → ℕ → Question → List Mark → Type 0
Answer p most q = AnswerOf (MarkReached p q) most

-- with at most the boats of the mark one is at the pier `to` at its arrival: without a boat, at `foot` if that is a
-- time, or from a leg that one is aboard of
pub data There (p : Plan) (seed : List ℕ) (to foot : ℕ) (m : Mark) : Type 0 where
  without : foot < never → m.arrival ≡ foot → There p seed to foot m
  with_leg : (a : Leg) → AboardFrom p seed m.boats a → Ends p to a.to a.comes m.arrival →
      There p seed to foot m

-- the seeds of a question: one boat for each leg that a journey can begin with
abbrev pub Seeds : Plan → Question → List ℕ → Type 0
Seeds p q seed = (i : ℕ) → i < length p.legs → slice_index seed i ≡ cond (begins p q.from q.time (leg p i)) 1 0

-- a question about the plan
pub record Asked (p : Plan) (q : Question) : Type 0 where
  pub from : q.from < piers p
  pub time : q.time < time_bound
  pub to : q.to < piers p

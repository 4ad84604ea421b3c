-- The laws of days and of runs: at each moment there is one plan, it may be used, and each question has one answer.
use Rattle.std.specs.Prelude.{◌≡◌, ℕ, ◌+◌, ◌≤◌, List, ◌++◌, length, Result}
use Rattle.plan.specs.Legs.{Plan}
use Rattle.plan.specs.Sound.{Few, Sound}
use Rattle.journey.specs.declared.question.Question.{Question}
use Rattle.marks.specs.declared.mark.Mark.{Mark}
use Rattle.rounds.specs.Answers.{Answer}
use Rattle.updates.specs.declared.update.Update.{Update}
use Rattle.serving.specs.declared.request.Request.{Request}
use Rattle.plan.specs.declared.refusal.Refusal.{Refusal}
use Rattle.serving.specs.declared.response.Response.{Response}
use Rattle.serving.specs.Runs.{day, plan_at, Served}

-- after any updates every question has an answer, and only one
pub record OneAnswerBy (p : Plan) (most : ℕ) (q : Question) : Type 0 where
  pub marks : List Mark
  pub answer : Answer p most q marks
  pub only : (ms : List Mark) → Answer p most q ms → ms ≡ marks

abbrev pub AnsweredEachDay : Type 0
AnsweredEachDay = (p : Plan) (us : List Update) (most : ℕ) (q : Question) → OneAnswerBy (day p us) most q

-- a plan that may be used may be used at every moment of a run, whatever was done and refused before it
abbrev pub UsableAtEachMoment : Type 0
UsableAtEachMoment =
    (p : Plan) (rs : List Request) (i : ℕ) → Few p → Sound p → Few (plan_at p rs i) × Sound (plan_at p rs i)

-- What was done is done: the plan at a moment does not depend on what is requested later, and what comes later goes on
-- from the plan that was left. So what was said is right whatever is requested later; and a run may be cut in two
-- anywhere, the second part being a run by the plan that the first leaves.
pub record RunInTwo (p : Plan) (rs more : List Request) : Type 0 where
  pub earlier : (i : ℕ) → i ≤ length rs → plan_at p (rs ++ more) i ≡ plan_at p rs i
  pub later : (i : ℕ) → plan_at p (rs ++ more) (length rs + i) ≡ plan_at (plan_at p rs (length rs)) more i
  pub cut : (said next : List (Result Response Refusal)) → length said ≡ length rs → Served p (rs ++ more) (said ++ next) →
      Served p rs said × Served (plan_at p rs (length rs)) more next
  pub joined : (said next : List (Result Response Refusal)) → Served p rs said → Served (plan_at p rs (length rs)) more next →
      Served p (rs ++ more) (said ++ next)

abbrev pub RunsInTwo : Type 0
RunsInTwo = (p : Plan) (rs more : List Request) → RunInTwo p rs more

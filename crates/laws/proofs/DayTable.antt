-- Each row of the table of the day of four piers, by computing its answers.
use Rattle.std.proofs.Common.{◌≡◌, ℕ, List, [], ◌∷◌, take, refl, subst}
use Rattle.std.specs.List.{AllByRecursion}
use Rattle.plan.specs.Legs.{Plan}
use Rattle.plan.specs.Check.{first_not}
use Rattle.journey.specs.declared.question.Question.{Question}
use Rattle.journey.specs.Steps.{walks_to}
use Rattle.marks.specs.declared.mark.Mark.{Mark}
use Rattle.rounds.specs.Answers.{Answer}
use Rattle.updates.specs.Updates.{known}
use Rattle.serving.specs.Runs.{day, done}
use Rattle.laws.specs.JourneyLaws.{asked}
use Rattle.laws.specs.DayTable.{DayRow, DayRowStands, day_table, by_now, DayTableStands}
use Rattle.laws.specs.Computed.{aboard, rides, answer_of}
use Rattle.laws.proofs.AllMarks.{computed_answers}

-- the row's marks are those computed
record Computes (r : DayRow) : Type 0 where
  two : answer_of (by_now r.after) 3 (asked 0 9 2) ≡ r.to_2
  three : answer_of (by_now r.after) 3 (asked 0 9 3) ≡ r.to_3
  two_by_one : answer_of (by_now r.after) 1 (asked 0 9 2) ≡ take 1 r.to_2
  three_by_one : answer_of (by_now r.after) 1 (asked 0 9 3) ≡ take 1 r.to_3

answers : (p : Plan) (most : ℕ) (q : Question) (ms : List Mark) → answer_of p most q ≡ ms → Answer p most q ms
answers p most q ms e = subst (Answer p most q) e (computed_answers p most q)

stands : (rows : List DayRow) → AllByRecursion Computes rows → AllByRecursion DayRowStands rows
stands [] h = tt
stands (r ∷ rows) h =
    let p = by_now r.after in
    let c = h.0 in (
      record {
        two = answers p 3 (asked 0 9 2) r.to_2 c.two;
        three = answers p 3 (asked 0 9 3) r.to_3 c.three;
        two_by_one = answers p 1 (asked 0 9 2) (take 1 r.to_2) c.two_by_one;
        three_by_one = answers p 1 (asked 0 9 3) (take 1 r.to_3) c.three_by_one;
      },
      stands rows h.1,
    )

computes : AllByRecursion Computes day_table
unfolding day rides aboard walks_to
computes = (
  record { two = refl; three = refl; two_by_one = refl; three_by_one = refl },
  (
    record { two = refl; three = refl; two_by_one = refl; three_by_one = refl },
    (
      record { two = refl; three = refl; two_by_one = refl; three_by_one = refl },
      (
        record { two = refl; three = refl; two_by_one = refl; three_by_one = refl },
        (record { two = refl; three = refl; two_by_one = refl; three_by_one = refl }, tt),
      ),
    ),
  ),
)

pub day_table_stands : DayTableStands
unfolding done first_not known
day_table_stands = record { all_done = refl; rows = stands day_table computes }

-- Each row of the table of four piers, by computing its answer.
use Rattle.std.proofs.Common.{◌≡◌, List, [], ◌∷◌, refl, subst}
use Rattle.std.specs.List.{AllByRecursion}
use Rattle.journey.specs.Steps.{walks_to}
use Rattle.laws.specs.JourneyLaws.{asked}
use Rattle.rounds.specs.Answers.{Answer}
use Rattle.laws.specs.AnswerExamples.{Row, RowStands, table, TableStands}
use Rattle.laws.specs.Computed.{aboard, rides, answer_of}
use Rattle.laws.proofs.AllMarks.{computed_answers}

-- the row's marks are those computed
abbrev Computes : Row → Type 0
Computes r = answer_of r.plan r.most (asked 0 9 r.to) ≡ r.marks

stands : (rows : List Row) → AllByRecursion Computes rows → AllByRecursion RowStands rows
stands [] h = tt
stands (r ∷ rows) h =
    let q = asked 0 9 r.to in
    (subst (Answer r.plan r.most q) h.0 (computed_answers r.plan r.most q), stands rows h.1)

pub table_stands : TableStands
unfolding rides aboard walks_to
table_stands = stands table (refl, (refl, (refl, (refl, (refl, (refl, (refl, (refl, tt))))))))

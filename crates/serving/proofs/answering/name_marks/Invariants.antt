use Rattle.std.proofs.Common.{◌≡◌, length, take, vec_items}
use Rattle.rounds.specs.Rows.{plan_of}
use Rattle.serving.specs.Responses.{Itineraries}
use Rattle.serving.proofs.answering.name_marks.Given as goal

-- the row is as long as it was, and the marks so far have their itineraries
abbrev pub invariant-loop-mark : goal.invariant-loop-mark
invariant-loop-mark l =
    (length l.row ≡ 2049) × Itineraries (plan_of l.search.layout) l.search.question (take l.mark-index l.marks) (vec_items l.names)

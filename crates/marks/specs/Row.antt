-- Marks in a lent row: their count, then two numbers a mark.
use Rattle.std.specs.Prelude.{ℕ, cond, List, [], ◌∷◌, ◌++◌, length, drop, Ok, Err, Result, nat_lt}
use Rattle.plan.specs.declared.refusal.Refusal.{Refusal}
use Rattle.plan.specs.declared.refusal.Refusal.TheVariants.{ShortRow}
use Rattle.marks.specs.declared.mark.Mark.{Mark}

-- the arrival and the boats of each mark
abbrev pub marks_words : List Mark → List ℕ
marks_words [] = []
marks_words (m ∷ ms) = m.arrival ∷ m.boats ∷ marks_words ms

abbrev pub front_words : List Mark → List ℕ
front_words ms = length ms ∷ marks_words ms

-- a row with other numbers at its beginning: the rest is as it was
abbrev pub over : List ℕ → List ℕ → List ℕ
over ws xs = ws ++ drop (length ws) xs

-- a shorter row is refused: the count and nine marks do not fit
abbrev pub row_room : ℕ
row_room = 19

-- the row after the marks are written to it, and what the writer is told
abbrev pub row_after : List Mark → List ℕ → List ℕ
row_after ms xs = cond (nat_lt (length xs) row_room) xs (over (front_words ms) xs)

abbrev pub row_reply : List Mark → List ℕ → Result ℕ Refusal
row_reply ms xs = cond (nat_lt (length xs) row_room) (Err (ShortRow (length xs))) (Ok (length ms))

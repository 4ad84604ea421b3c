-- How marks are told.
use Rattle.std.specs.Prelude.{ℕ, zero, suc, List, [], ◌∷◌, ◌++◌, codes, decimal}
use Rattle.std.specs.List.{flat_map}
use Rattle.marks.specs.declared.mark.Mark.{Mark}

-- `35/1`: there at 35 with one boat
abbrev pub mark_text : Mark → List ℕ
mark_text m = decimal m.arrival ++ (codes "/" ++ decimal m.boats)

-- what stands before the mark at a place of a line
abbrev pub gap_text : ℕ → List ℕ
gap_text zero = []
gap_text (suc i) = codes " "

-- a mark behind others
abbrev pub next_text : Mark → List ℕ
next_text m = codes " " ++ mark_text m

-- `35/1 30/2`: the marks, with a blank between them
abbrev pub marks_text : List Mark → List ℕ
marks_text [] = []
marks_text (m ∷ ms) = mark_text m ++ flat_map next_text ms

-- The marks that a front holds, and what it holds with one more.
use Rattle.std.specs.Prelude.{Bool, cond, ◌&&◌, List, [], ◌∷◌, ◌++◌, length, take, nat_lt}
use Rattle.marks.specs.declared.mark.Mark.{Mark}
use Rattle.marks.specs.declared.front.Front.{Front}
use Rattle.marks.specs.Marks.{in_order}

-- the marks are the first so many of the row
abbrev pub marks_of : Front → List Mark
marks_of f = take f.count f.row

-- behind these marks there is room for one more, with more boats than each of them, and earlier
abbrev pub accepts : List Mark → Mark → Bool
accepts ms m = nat_lt (length ms) 9 && in_order (ms ++ m ∷ [])

-- the marks with one more behind them; as they were, where it cannot come next
abbrev pub with_mark : List Mark → Mark → List Mark
with_mark ms m = cond (accepts ms m) (ms ++ m ∷ []) ms

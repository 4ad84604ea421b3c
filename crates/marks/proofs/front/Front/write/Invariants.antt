use Rattle.std.proofs.Common.{◌≡◌, ◌∷◌, length, take}
use Rattle.marks.specs.Row.{marks_words, over}
use Rattle.marks.proofs.front.Front.write.Given as goal

abbrev pub invariant-loop-i : goal.invariant-loop-i
invariant-loop-i l = l.out ≡ over (length l.marks ∷ marks_words (take l.i l.marks)) l.initial.out

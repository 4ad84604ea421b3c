-- The number and the place of each refusal, and how it is told.
use Rattle.std.specs.Prelude.{ℕ, ◌+◌, List, ◌++◌, codes, decimal}
use Rattle.plan.specs.declared.refusal.Part.TheVariants.{Piers, Legs, Walks}
use Rattle.plan.specs.declared.refusal.Refusal.{Refusal}
use Rattle.plan.specs.declared.refusal.Refusal.TheVariants.{Short, Count, BadLeg, BadWalk, BadChange, BadQuestion, ShortRow, NoMark, TooLate, Taken, Full, NoLeg, BadItinerary}

abbrev pub number_of : Refusal → ℕ
number_of Short = 1
number_of (Count k) = 1
number_of (BadLeg i) = 2
number_of (BadWalk j) = 2
number_of (BadChange s) = 2
number_of (BadQuestion k) = 3
number_of (ShortRow n) = 4
number_of (NoMark b) = 5
number_of (TooLate i) = 6
number_of (Taken n) = 7
number_of (Full n) = 7
number_of (NoLeg n) = 8
number_of (BadItinerary n) = 9

-- walks are told from 1,024 on and piers from 1,280, past every leg
abbrev pub place_of : Refusal → ℕ
place_of Short = 3
place_of (Count Piers) = 0
place_of (Count Legs) = 1
place_of (Count Walks) = 2
place_of (BadLeg i) = i
place_of (BadWalk j) = 1024 + j
place_of (BadChange s) = 1280 + s
place_of (BadQuestion k) = k
place_of (ShortRow n) = n
place_of (NoMark b) = b
place_of (TooLate i) = i
place_of (Taken n) = n
place_of (Full n) = n
place_of (NoLeg n) = n
place_of (BadItinerary n) = n

-- `refused 3 at 2`
abbrev pub refusal_text : Refusal → List ℕ
refusal_text e = codes "refused " ++ (decimal (number_of e) ++ (codes " at " ++ decimal (place_of e)))

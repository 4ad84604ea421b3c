-- A plan in lent memory: three counts, a change for each pier, six numbers a leg, three a walk.
use Rattle.std.specs.Prelude.{ℕ, zero, suc, ◌+◌, ◌*◌, ◌≤◌, List, [], ◌∷◌, ◌++◌, length, take, drop, slice_index}
use Rattle.plan.specs.declared.leg.Leg.{Leg}
use Rattle.plan.specs.declared.walk.Walk.{Walk}
use Rattle.plan.specs.Legs.{Plan}

-- the leg that six numbers write down, the walk that three do
abbrev pub leg_of : List ℕ → Leg
leg_of xs = record { run = slice_index xs 0; number = slice_index xs 1; from = slice_index xs 2; to = slice_index xs 3; leaves = slice_index xs 4; comes = slice_index xs 5 }

abbrev pub walk_of : List ℕ → Walk
walk_of xs = record { from = slice_index xs 0; to = slice_index xs 1; takes = slice_index xs 2 }

unfoldable pub legs_in : ℕ → List ℕ → List Leg
legs_in zero xs = []
legs_in (suc n) xs = leg_of xs ∷ legs_in n (drop 6 xs)

unfoldable pub walks_in : ℕ → List ℕ → List Walk
walks_in zero xs = []
walks_in (suc n) xs = walk_of xs ∷ walks_in n (drop 3 xs)

-- where the legs and the walks begin, and where the plan ends
abbrev pub legs_start : List ℕ → ℕ
legs_start xs = 3 + slice_index xs 0

abbrev pub walks_start : List ℕ → ℕ
walks_start xs = legs_start xs + 6 * slice_index xs 1

abbrev pub plan_end : List ℕ → ℕ
plan_end xs = walks_start xs + 3 * slice_index xs 2

-- the memory holds all that its counts say
abbrev pub Whole : List ℕ → Type 0
Whole xs = plan_end xs ≤ length xs

-- the plan that the memory holds
unfoldable pub plan_in : List ℕ → Plan
plan_in xs = record {
  legs = legs_in (slice_index xs 1) (drop (legs_start xs) xs);
  walks = walks_in (slice_index xs 2) (drop (walks_start xs) xs);
  change = take (slice_index xs 0) (drop 3 xs);
}

-- and back: the numbers of a leg, of a walk and of a plan
abbrev pub leg_words : Leg → List ℕ
leg_words a = a.run ∷ a.number ∷ a.from ∷ a.to ∷ a.leaves ∷ a.comes ∷ []

abbrev pub walk_words : Walk → List ℕ
walk_words w = w.from ∷ w.to ∷ w.takes ∷ []

unfoldable pub legs_words : List Leg → List ℕ
legs_words [] = []
legs_words (a ∷ rest) = leg_words a ++ legs_words rest

unfoldable pub walks_words : List Walk → List ℕ
walks_words [] = []
walks_words (w ∷ rest) = walk_words w ++ walks_words rest

unfoldable pub words : Plan → List ℕ
words p = length p.change ∷ length p.legs ∷ length p.walks ∷ (p.change ++ (legs_words p.legs ++ walks_words p.walks))

-- memory that begins with a plan, and past its end holds what it held
unfoldable pub written : Plan → List ℕ → List ℕ
written p xs = words p ++ drop (length (words p)) xs

-- A plan of four piers, and the answers to some questions of it.
use Rattle.std.specs.Prelude.{ℕ, List, [], ◌∷◌}
use Rattle.std.specs.List.{AllByRecursion}
use Rattle.plan.specs.declared.leg.Leg.{Leg}
use Rattle.plan.specs.Legs.{Plan}
use Rattle.marks.specs.declared.mark.Mark.{Mark}
use Rattle.laws.specs.JourneyLaws.{asked}
use Rattle.rounds.specs.Answers.{Answer}

abbrev pub leg_from : ℕ → ℕ → ℕ → ℕ → ℕ → ℕ → Leg
leg_from r n f t l c = record { run = r; number = n; from = f; to = t; leaves = l; comes = c }

-- Run 0 goes on after two minutes where a change takes three. Run 3 leaves pier 2 a minute after run 1 comes there,
-- where a change takes two: it is missed, unless it is late. A walk leads from pier 2 to pier 3 in a quarter of an hour.
abbrev pub piers_with : Leg → Plan
piers_with home = record {
  legs = leg_from 0 0 0 1 10 20 ∷ leg_from 0 1 1 2 22 35 ∷ leg_from 1 0 1 2 24 30 ∷ leg_from 2 0 0 2 12 45 ∷ home ∷ [];
  walks = record { from = 2; to = 3; takes = 15 } ∷ [];
  change = 2 ∷ 3 ∷ 2 ∷ 0 ∷ [];
}

abbrev pub as_planned : Plan
as_planned = piers_with (leg_from 3 0 2 3 31 40)

-- run 3 is two minutes late
abbrev pub delayed : Plan
delayed = piers_with (leg_from 3 0 2 3 33 42)

-- a question from pier 0 at 9, and its answer
pub record Row : Type 0 where
  pub plan : Plan
  pub to : ℕ
  pub most : ℕ
  pub marks : List Mark

abbrev pub row : Plan → ℕ → ℕ → List Mark → Row
row p d n ms = record { plan = p; to = d; most = n; marks = ms }

-- there at a time, with so many boats
abbrev pub there : ℕ → ℕ → Mark
there t n = record { arrival = t; boats = n }

abbrev pub table : List Row
table =
    row as_planned 2 3 (there 35 1 ∷ there 30 2 ∷ [])
    ∷ row as_planned 3 3 (there 50 1 ∷ there 45 2 ∷ [])
    ∷ row delayed 2 3 (there 35 1 ∷ there 30 2 ∷ [])
    ∷ row delayed 3 3 (there 50 1 ∷ there 45 2 ∷ there 42 3 ∷ [])
    ∷ row as_planned 2 1 (there 35 1 ∷ [])
    ∷ row as_planned 3 1 (there 50 1 ∷ [])
    ∷ row delayed 2 1 (there 35 1 ∷ [])
    ∷ row delayed 3 1 (there 50 1 ∷ [])
    ∷ []

abbrev pub RowStands : Row → Type 0
RowStands r = Answer r.plan r.most (asked 0 9 r.to) r.marks

abbrev pub TableStands : Type 0
TableStands = AllByRecursion RowStands table

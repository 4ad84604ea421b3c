-- Legs, walks and plans: what the words mean.
use Rattle.std.specs.Prelude.{ℕ, Bool, ◌&&◌, List, length, ◌==◌, nat_le, nat_lt, slice_index, slice_index_or}
use Rattle.plan.specs.declared.leg.Leg.{Leg}
use Rattle.plan.specs.declared.name.LegName.{LegName}
use Rattle.plan.specs.declared.walk.Walk.{Walk}

-- a plan: its legs, its walks, and for each pier the minutes that a change of boats takes there
pub record Plan : Type 0 where
  pub legs : List Leg
  pub walks : List Walk
  pub change : List ℕ

-- every time of a plan is below this
abbrev pub time_bound : ℕ
time_bound = 4294967296

-- runs, and numbers in a run, are below this
abbrev pub name_bound : ℕ
name_bound = 65536

-- a leg runs if it comes no earlier than it leaves; others stand in the plan unused
abbrev pub runs : Leg → Bool
runs a = nat_le a.leaves a.comes

-- run and number name a leg
abbrev pub name : Leg → LegName
name a = record { run = a.run; number = a.number }

abbrev pub same_name : Leg → Leg → Bool
same_name a b = a.run == b.run && a.number == b.number

-- the numbers of a leg are within their bounds, in a plan of so many piers
abbrev pub leg_within : ℕ → Leg → Bool
leg_within n a =
    nat_lt a.run name_bound && (nat_lt a.number name_bound && (nat_lt a.from n && (nat_lt a.to n && (nat_lt a.leaves time_bound && nat_lt a.comes time_bound))))

abbrev pub walk_within : ℕ → Walk → Bool
walk_within n w = nat_lt w.from n && (nat_lt w.to n && nat_lt w.takes time_bound)

-- what stands at a place past the end of a plan's rows
abbrev pub no_leg : Leg
no_leg = record { run = 0; number = 0; from = 0; to = 0; leaves = 0; comes = 0 }

abbrev pub no_walk : Walk
no_walk = record { from = 0; to = 0; takes = 0 }

-- the leg and the walk at a place of the plan, and the change at a pier
abbrev pub leg : Plan → ℕ → Leg
leg p i = slice_index_or p.legs i no_leg

abbrev pub walk : Plan → ℕ → Walk
walk p j = slice_index_or p.walks j no_walk

abbrev pub change_at : Plan → ℕ → ℕ
change_at p s = slice_index p.change s

abbrev pub piers : Plan → ℕ
piers p = length p.change

-- the plan with other legs; its walks and changes are as they were
abbrev pub with_legs : Plan → List Leg → Plan
with_legs p ls = record { legs = ls; walks = p.walks; change = p.change }

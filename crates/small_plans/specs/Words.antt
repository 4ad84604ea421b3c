-- Plans, journeys and marks as rows of numbers: docs/FORMAT.md has them.
use Rattle.std.specs.Prelude.{ℕ, List, [], ◌∷◌, ◌++◌, length, vec_len}
use Rattle.std.specs.List.{flat_map}
use Rattle.small_plans.specs.declared.small.Leg.{Leg}
use Rattle.small_plans.specs.declared.small.Walk.{Walk}
use Rattle.small_plans.specs.declared.small.SmallPlan.{SmallPlan}
use Rattle.small_plans.specs.declared.small.Mark.{Mark}

abbrev pub leg_words : Leg → List ℕ
leg_words leg = leg.run ∷ leg.number ∷ leg.from ∷ leg.to ∷ leg.leaves ∷ leg.comes ∷ []

abbrev pub walk_words : Walk → List ℕ
walk_words walk = walk.from ∷ walk.to ∷ walk.takes ∷ []

-- the three counts, the changes, the legs and the walks
abbrev pub plan_words : SmallPlan → List ℕ
plan_words p =
    vec_len p.changes ∷ vec_len p.legs ∷ vec_len p.walks ∷ [] ++ p.changes.items
    ++ flat_map leg_words p.legs.items ++ flat_map walk_words p.walks.items

abbrev pub name_words : Leg → List ℕ
name_words leg = leg.run ∷ leg.number ∷ []

-- how many legs, and the name of each
abbrev pub names_words : List Leg → List ℕ
names_words legs = length legs ∷ flat_map name_words legs

abbrev pub mark_words : Mark → List ℕ
mark_words mark = mark.arrival ∷ mark.boats ∷ []

-- how many marks, and each of them
abbrev pub marks_words : List Mark → List ℕ
marks_words marks = length marks ∷ flat_map mark_words marks

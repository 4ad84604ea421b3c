-- How the name of a leg is told.
use Rattle.std.specs.Prelude.{ℕ, List, ◌++◌, codes, decimal}
use Rattle.plan.specs.declared.name.LegName.{LegName}

-- `0.1`: leg 1 of run 0
abbrev pub name_text : LegName → List ℕ
name_text n = decimal n.run ++ (codes "." ++ decimal n.number)

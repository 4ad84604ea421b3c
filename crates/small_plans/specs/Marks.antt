-- The order in which marks are told.
use Rattle.std.specs.Prelude.{◌<◌}
use Rattle.small_plans.specs.declared.small.Mark.{Mark}

-- more boats buy an earlier arrival
abbrev pub Falls : Mark → Mark → Type 0
Falls m n = (m.boats < n.boats) × (n.arrival < m.arrival)

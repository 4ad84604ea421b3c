-- Piers that are there.
use Rattle.std.specs.Prelude.{ℕ, ◌≤◌}
use Rattle.small_plans.specs.declared.small.Walk.{Walk}

-- between piers up to this one
abbrev pub GoesWithin : ℕ → Walk → Type 0
GoesWithin last_pier walk = (walk.from ≤ last_pier) × (walk.to ≤ last_pier)

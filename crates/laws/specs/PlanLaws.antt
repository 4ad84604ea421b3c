-- The laws of plans as numbers.
use Rattle.std.specs.Prelude.{◌≡◌, ℕ, List, ◌++◌}
use Rattle.plan.specs.Legs.{Plan}
use Rattle.plan.specs.Words.{plan_in, words}

-- The numbers of a plan, with anything behind them, are read back as that plan.
abbrev pub ReadsBack : Type 0
ReadsBack = (p : Plan) (t : List ℕ) → plan_in (words p ++ t) ≡ p

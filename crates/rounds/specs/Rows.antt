-- The plan that the rows of a layout hold, and the places that are left along a chain.
use Rattle.std.specs.Prelude.{ℕ, List}
use Rattle.plan.specs.Legs.{Plan}
use Rattle.rounds.specs.declared.chains.Along.{Along}
use Rattle.rounds.specs.declared.layout.Layout.{Layout}
use Rattle.rounds.specs.Chains.{places}

abbrev pub plan_of : Layout → Plan
plan_of l = record { legs = l.legs.now; walks = l.walks.now; change = l.change.now }

abbrev pub places_left : Along → List ℕ
places_left s = places s.prior.now s.at

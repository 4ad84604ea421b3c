use Rattle.std.proofs.Common.{◌≡◌, ℕ}
use Rattle.rounds.specs.Chains.{places}
use Rattle.rounds.specs.Rows.{plan_of, places_left}
use Rattle.itinerary.proofs.Arriving.{Searched}
use Rattle.itinerary.proofs.search.Search.find.Given as goal

abbrev pub invariant-loop-j : goal.invariant-loop-j
invariant-loop-j g l =
    (at : ℕ)
    × (places_left l.j-iterator ≡ places l.self.arrivals.walks.prior.now at)
    × Searched (plan_of l.self.layout) (goal.F-post g l.fits) l.pier at l.best

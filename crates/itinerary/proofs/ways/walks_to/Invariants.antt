use Rattle.std.proofs.Common.{◌≡◌, ℕ}
use Rattle.rounds.specs.Chains.{places}
use Rattle.rounds.specs.Rows.{places_left}
use Rattle.itinerary.proofs.Chained.{Missed, Leads}
use Rattle.itinerary.proofs.ways.walks_to.Given as goal

abbrev pub invariant-loop-j : goal.invariant-loop-j
invariant-loop-j l =
    (at : ℕ)
    × (places_left l.j-iterator ≡ places l.layout.outgoing.prior.now at)
    × Missed l.layout.walks.now (Leads l.layout.walks.now l.from.pier l.from.time l.to.pier l.to.time) l.from.pier at

use Rattle.std.proofs.Common.{◌≡◌, ℕ}
use Rattle.rounds.specs.Chains.{places}
use Rattle.rounds.specs.Rows.{places_left}
use Rattle.itinerary.proofs.Chained.{Missed, ThereAt}
use Rattle.itinerary.proofs.ways.ends_at.Given as goal

abbrev pub invariant-loop-j : goal.invariant-loop-j
invariant-loop-j l =
    (past : ℕ)
    × (places_left l.j-iterator ≡ places l.layout.outgoing.prior.now past)
    × Missed l.layout.walks.now (ThereAt l.layout.walks.now l.a.comes l.at.pier l.at.time) l.a.to past

use Rattle.std.proofs.Common.{◌≡◌, ℕ, ◌<◌, length, get_or}
use Rattle.rounds.specs.Chains.{places}
use Rattle.rounds.specs.Rows.{places_left}
use Rattle.rounds.specs.Layout.{ChainAt, walk_from}
use Rattle.rounds.proofs.Cells.{Gone}
use Rattle.rounds.proofs.asking.set_out.Given as goal

abbrev pub invariant-loop-j : goal.invariant-loop-j
invariant-loop-j l =
    (at : ℕ)
    × (places_left l.j-iterator ≡ places l.layout.outgoing.prior.now at)
    × ChainAt (walk_from l.layout.walks.now) (length l.layout.walks.now) l.q.from at
    × (length l.ready ≡ length l.initial.ready)
    × ((d : ℕ) → d < length l.initial.ready →
    Gone l.layout.walks.now l.q.from l.q.time d (get_or l.initial.ready d 0) (get_or l.ready d 0) at)

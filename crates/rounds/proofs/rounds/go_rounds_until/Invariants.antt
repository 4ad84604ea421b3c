use Rattle.std.proofs.Common.{◌≡◌, ℕ, ◌<◌, length, get_or}
use Rattle.marks.specs.Fronts.{marks_of}
use Rattle.rounds.specs.Layout.{ChainAt, walk_from}
use Rattle.rounds.specs.Chains.{places}
use Rattle.rounds.specs.Rows.{plan_of, places_left}
use Rattle.rounds.proofs.Cells.{Gone}
use Rattle.rounds.proofs.Thinning.{Passed, next_of}
use Rattle.rounds.proofs.Nesting.{Rounded}
use Rattle.rounds.proofs.rounds.go_rounds_until.Given as goal

abbrev pub invariant-rounds : goal.invariant-rounds
invariant-rounds l =
    Rounded (plan_of l.layout) l.seed l.on_foot l.to l.time l.k l.level l.ready l.later
    l.arrived l.waits l.soon l.left (marks_of l.front)

abbrev pub invariant-legs : goal.invariant-legs
invariant-legs l =
    Passed (plan_of l.layout) l.seed l.on_foot l.to l.time l.k l.ready l.initial.level
    l.initial.waits l.left l.level l.later l.arrived l.waits l.soon l.still l.c
    (next_of l.initial.waits l.left (length (plan_of l.layout).legs) l.c)

abbrev pub invariant-walks : goal.invariant-walks
invariant-walks l =
    (at : ℕ)
    × (places_left l.j-iterator ≡ places l.layout.outgoing.prior.now at)
    × ChainAt (walk_from l.layout.walks.now) (length l.layout.walks.now) l.a.to at
    × (length l.later ≡ length l.initial.later)
    × ((d : ℕ) → d < length l.initial.later →
    Gone l.layout.walks.now l.a.to l.a.comes d (get_or l.initial.later d 0) (get_or l.later d 0) at)
    × Gone (plan_of l.layout).walks l.a.to l.a.comes l.to l.initial.soon l.soon at

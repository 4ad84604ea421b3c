use Rattle.std.proofs.Common.{◌≡◌, ℕ, ◌<◌, false, get_or}
use Rattle.plan.specs.Legs.{no_leg, leg}
use Rattle.plan.specs.Words.{plan_in}
use Rattle.rounds.specs.Layout.{is_joined}
use Rattle.rounds.specs.Opened.{place_at}
use Rattle.rounds.proofs.opening.fill_legs.Given as goal

abbrev pub invariant-loop-c : goal.invariant-loop-c
invariant-loop-c l =
    ((m : ℕ) → m < l.c → get_or l.legs m no_leg ≡ leg (plan_in l.table.words.now) (place_at l.keys m))
    × ((m : ℕ) → m < l.c → get_or l.joins m false ≡ is_joined l.legs m)

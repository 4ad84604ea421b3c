use Rattle.std.proofs.Common.{◌≡◌, ℕ, ◌<◌, get_or}
use Rattle.plan.specs.Legs.{no_walk, walk}
use Rattle.plan.specs.Words.{plan_in}
use Rattle.rounds.proofs.opening.fill_walks.Given as goal

abbrev pub invariant-loop-j : goal.invariant-loop-j
invariant-loop-j l = (m : ℕ) → m < l.j → get_or l.walks m no_walk ≡ walk (plan_in l.table.words.now) m

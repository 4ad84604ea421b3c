use Rattle.std.proofs.Common.{◌≡◌, ℕ, ◌<◌, get_or}
use Rattle.plan.specs.Legs.{change_at}
use Rattle.plan.specs.Words.{plan_in}
use Rattle.rounds.proofs.opening.fill_changes.Given as goal

abbrev pub invariant-loop-pier : goal.invariant-loop-pier
invariant-loop-pier l = (s : ℕ) → s < l.pier → get_or l.change s 0 ≡ change_at (plan_in l.table.words.now) s

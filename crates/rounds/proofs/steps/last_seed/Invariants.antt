use Rattle.std.proofs.Common.{ℕ, ◌<◌, ◌≤◌, get_or}
use Rattle.rounds.proofs.steps.last_seed.Given as goal

abbrev pub invariant-loop-boats : goal.invariant-loop-boats
invariant-loop-boats l = (i : ℕ) → i < l.boats-index → get_or l.seed i 0 ≤ l.last

use Rattle.std.proofs.Common.{arith}
use Rattle.plan.specs.Legs.{no_walk}
use Rattle.rounds.proofs.Laying.{row_filled}
use Rattle.rounds.proofs.opening.fill_walks.Goals as goal

pub returns : goal.returns
returns c = row_filled no_walk _ _ (omega arith) (λ j h. c.loop-j.invariant j (omega arith))

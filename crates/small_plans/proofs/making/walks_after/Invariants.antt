use Rattle.std.proofs.Common.{◌≡◌, All, vec_len}
use Rattle.small_plans.specs.Piers.{GoesWithin}
use Rattle.small_plans.proofs.making.walks_after.Given as goal

abbrev pub invariant-loop : goal.invariant-loop
invariant-loop l =
    (vec_len l.walks ≡ l.counter) × GoesWithin l.last_pier l.last × All (GoesWithin l.last_pier) l.walks.items

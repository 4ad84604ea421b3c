use Rattle.std.proofs.Common.{◌≡◌, take}
use Rattle.updates.specs.Still.{names_in}
use Rattle.updates.proofs.still.read_names.Given as goal

abbrev pub invariant-loop-i : goal.invariant-loop-i
invariant-loop-i l = take l.i l.names ≡ names_in l.i l.pairs

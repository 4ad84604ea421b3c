use Rattle.std.proofs.Common.{◌-◌, length, vec_items}
use Rattle.office.specs.Requests.{Written}
use Rattle.office.proofs.reading.read_requests.Given as goal

abbrev pub invariant-loop-at : goal.invariant-loop-at
invariant-loop-at l = Written l.bytes l.start (vec_items l.all) l.at

abbrev pub decreases-loop-at : goal.decreases-loop-at
decreases-loop-at l = length l.bytes - l.at

use Rattle.std.proofs.Common.{rules}
use Rattle.updates.proofs.Known.{found_known}
use Rattle.updates.proofs.adding.is_known.Goals as goal

pub returns : goal.returns
returns c = search (rules, found_known)

use Rattle.std.proofs.Common.{rules}
use Rattle.journey.proofs.Trails.{rides_decides}
use Rattle.journey.proofs.checking.goes.Goals as goal

pub returns : goal.returns
returns c = search (rules, rides_decides)

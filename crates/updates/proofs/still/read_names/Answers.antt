use Rattle.std.proofs.Common.{rules}
use Rattle.updates.proofs.Names.{names_none, names_more}
use Rattle.updates.proofs.still.read_names.Goals as goal

pub loop-i-init : goal.loop-i-init
loop-i-init c = names_none c.args.names.now c.args.pairs.now

pub loop-i-preserved : goal.loop-i-preserved
loop-i-preserved c = search (rules, names_more)

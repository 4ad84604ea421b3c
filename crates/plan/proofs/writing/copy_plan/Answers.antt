use Rattle.plan.proofs.Written.{plan_copied}
use Rattle.plan.proofs.writing.copy_plan.Goals as goal

pub returns : goal.returns
returns c = plan_copied c.args.source.now c.args.words.now _ c.end-end.result c.requires.whole (cc) c.copy_from_slice.ensures.after

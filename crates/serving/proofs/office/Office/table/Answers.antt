use Rattle.plan.proofs.Laws.{usable, opens}
use Rattle.serving.proofs.office.Office.table.Goals as goal

pub of-requires : goal.of-requires
of-requires c =
    let self = c.args.self.now in
    record { whole = (usable self.words self.usable).whole; sound = opens self.words self.usable }

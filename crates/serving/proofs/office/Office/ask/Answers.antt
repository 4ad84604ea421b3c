use Rattle.std.proofs.Common.{ℕ, List, sym, subst}
use Rattle.plan.specs.Sound.{Usable}
use Rattle.plan.specs.Words.{plan_in}
use Rattle.plan.proofs.Laws.{usable}
use Rattle.rounds.specs.Layout.{Alike}
use Rattle.rounds.specs.Rows.{plan_of}
use Rattle.serving.specs.Kept.{Lays}
use Rattle.serving.proofs.Alike.{made_alike}
use Rattle.serving.proofs.office.Office.ask.Goals as goal

pub ready-requires : goal.ready-requires
ready-requires c =
    let self = c.args.self.now in
    record {
      usable = subst Usable (sym c.table.ensures) (usable self.words self.usable);
      kept = subst (λ (xs : List ℕ). Lays (plan_in xs) self.index) (sym c.table.ensures) self.kept;
    }

pub returns : goal.returns
returns c =
    made_alike
    (subst (λ (xs : List ℕ). Alike (plan_in xs) (plan_of c.ready.result.layout)) c.table.ensures c.ready.ensures)
    c.args.question.now c.respond.result c.respond.ensures

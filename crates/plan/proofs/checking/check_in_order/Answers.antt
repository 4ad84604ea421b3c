use Rattle.std.proofs.Common.{◌≡◌, is_ok, sym, ap, ◌∙◌}
use Rattle.plan.specs.Check.{plan_checked}
use Rattle.plan.proofs.Laws.{usable, not_refused, opens, checked_fit}
use Rattle.plan.proofs.checking.check_in_order.Goals as goal

pub returns : goal.returns
returns c =
    let xs = c.args.words.now in
    let e : is_ok c.check_all.result ≡ is_ok (plan_checked xs) = ap is_ok c.check_all.ensures.value in
    record {
      value = c.check_all.ensures.value;
      usable = λ t. usable xs (sym e ∙ t);
      just = λ u. e ∙ not_refused xs u;
      opens = λ t. opens xs (sym e ∙ t);
      ordered = λ t. c.check_all.ensures.keys.ordered (checked_fit xs (sym e ∙ t));
      keys = c.check_all.ensures.keys;
    }

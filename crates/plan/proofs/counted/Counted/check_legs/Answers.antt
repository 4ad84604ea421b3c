use Rattle.std.proofs.Common.{◌≡◌, true, sym, refl, arith, rules}
use Rattle.plan.specs.Words.{plan_in}
use Rattle.plan.specs.Keys.{all_fit}
use Rattle.plan.proofs.Keys.{legs_differ}
use Rattle.plan.proofs.counted.Counted.check_legs.Goals as goal

pub returns-then-names_differ-clause-value : goal.returns-then-names_differ-clause-value
returns-then-names_differ-clause-value c =
    let p = plan_in c.args.self.words.now in
    let fit : all_fit p ≡ true = search rules in
    sym (legs_differ p c.put_in_order.new.keys (omega (arith, c.args.self.few.legs)) fit c.put_in_order.ensures (c.if-names_differ.ensures.yes refl))

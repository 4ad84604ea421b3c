use Rattle.std.proofs.Common.{ℕ, Bool, not, refl, ◌∙◌, arith, rules}
use borrow.Author.Tests.{tests}
use Rattle.std.proofs.lemmas.Iterator.{YieldsList-from_range}
use Rattle.std.proofs.lemmas.Iterator.Search.{all_from_yields_List}
use Rattle.plan.specs.Legs.{leg, same_name}
use Rattle.plan.specs.Words.{plan_in}
use Rattle.plan.proofs.Firsts.{all_below_range}
use Rattle.plan.proofs.counted.Counted.has_new_name.Goals as goal

pub returns : goal.returns
returns c =
    let p = plan_in c.args.self.words.now in
    let i = c.args.i in
    let differs : ℕ → Bool = λ j. not (same_name (leg p i) (leg p j)) in
    all_from_yields_List differs _ _ _ c.all.ensures.ran (YieldsList-from_range 0 i i refl (omega arith)) (λ x b q k. search (rules, tests))
    ∙ all_below_range differs i

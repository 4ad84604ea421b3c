use Rattle.std.proofs.Common.{ℕ, ◌/◌, List, length, refl, subst}
use Rattle.plan.specs.Words.{plan_in}
use Rattle.race.specs.Each.{EachAnswered, Raced}
use Rattle.race.proofs.race_opened.Goals as goal

pub returns-in-Ok : goal.returns-in-Ok
returns-in-Ok c =
    let xs = c.args.plan.now in
    let qs = c.args.questions.now in
    let out = c.args.out.now in
    let out₁ = c.answer_each_checked.new.out in
    let each = subst (λ (ys : List ℕ). EachAnswered (plan_in ys) qs out out₁ (length qs / 4)) c.of-table.ensures c.answer_each_checked.ensures in
    subst (λ o. Raced o (plan_in xs) qs out 0 out₁) c.in-Ok.ensures.value (refl, each)

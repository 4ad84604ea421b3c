use Rattle.std.proofs.Common.{All, sym, subst, rules}
use Rattle.std.proofs.lemmas.List.Quantifiers.{all_pairs_push}
use Rattle.small_plans.specs.Marks.{Falls}
use Rattle.small_plans.specs.Tried.{mark_of, IsFalling}
use Rattle.small_plans.proofs.trying.Search.tell.Goals as goal

pub loop-reached-preserved-in-Continue-1 : goal.loop-reached-preserved-in-Continue-1
loop-reached-preserved-in-Continue-1 c =
    let told = c.loop-reached.told.items in
    let all : All (λ r. Falls (mark_of r) (mark_of c.in-Some.reached)) told = search rules in
    subst IsFalling (sym c.in_ok-push.ensures.items) (all_pairs_push (λ a b. Falls (mark_of a) (mark_of b)) told c.in-Some.reached c.loop-reached.invariant all)

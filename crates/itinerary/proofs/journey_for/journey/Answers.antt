use Rattle.std.proofs.Common.{◌≡◌, true, is_ok, ℕ, ◌≤◌, List, length, take, sym, subst, arith, rules}
use Rattle.plan.specs.Words.{plan_in}
use Rattle.plan.specs.Keys.{Ordered}
use Rattle.plan.specs.Sound.{Usable}
use Rattle.journey.proofs.Naming.{sound_once}
use Rattle.itinerary.proofs.journey_for.journey.Goals as goal

pub slice_bounds-journey_checked-end : goal.slice_bounds-journey_checked-end
slice_bounds-journey_checked-end c =
    let ok : is_ok c.check_in_order.result ≡ true = search rules in
    let u : Usable c.of-table.result.words.now = subst Usable (sym c.of-table.ensures)
    (c.check_in_order.ensures.usable ok) in
    let l : c.legs-legs.result ≤ 1024 = omega (arith, u.few.legs) in
    search rules

pub journey_checked-requires : goal.journey_checked-requires
journey_checked-requires c =
    let xs = c.of-table.result.words.now in
    let keys = c.check_in_order.new.keys in
    let e = sym c.of-table.ensures in
    let ok : is_ok c.check_in_order.result ≡ true = search rules in
    let u : Usable xs = subst Usable e (c.check_in_order.ensures.usable ok) in
    let o = subst (λ (ys : List ℕ). Ordered (plan_in ys) (take (length (plan_in ys).legs) keys)) e
    (c.check_in_order.ensures.ordered ok) in
    let n : length (plan_in xs).legs ≡ c.legs-legs.result = omega arith in
    record {
      ordered = subst (λ (m : ℕ). Ordered (plan_in xs) (take m keys)) n o;
      few = u.few;
      once = sound_once u.sound;
    }

use Rattle.std.proofs.Common.{◌≡◌, ℕ, ◌+◌, ◌≤◌, false, leb, List, length, Ok, sym, ap, ◌∙◌, arith, rules}
use Rattle.std.proofs.lemmas.Bool.{leb-true}
use Rattle.plan.specs.Words.{plan_in, plan_end, words}
use Rattle.plan.proofs.Laws.{usable_opens}
use Rattle.updates.specs.declared.update.Update.TheVariants.{Extra}
use Rattle.updates.specs.Updates.{after, update_checked}
use Rattle.updates.proofs.Done.{applied, refused_for_room, extra_length}
use Rattle.updates.proofs.adding.extra_checked.Goals as goal

pub of-requires : goal.of-requires
of-requires c = search (rules, usable_opens)

pub returns-then-not-has_room : goal.returns-then-not-has_room
returns-then-not-has_room c =
    let xs = c.args.plan.now in
    let u = Extra c.args.leg in
    let passed : update_checked (plan_in xs) u ≡ Ok tt =
    ap (λ (ys : List ℕ). update_checked (plan_in ys) u) (sym c.of.ensures) ∙ sym c.check_extra.ensures ∙
    c.in_ok-check_extra.was in
    let short : leb (length (words (after (plan_in xs) u))) (length xs) ≡ false =
    ap (λ n. leb n (length xs)) (extra_length xs c.args.leg c.requires.whole) ∙ sym c.if-not-has_room.ensures
    in
    refused_for_room xs u c.requires passed short

pub returns : goal.returns
returns c =
    let xs = c.args.plan.now in
    let u = Extra c.args.leg in
    let passed : update_checked (plan_in xs) u ≡ Ok tt =
    ap (λ (ys : List ℕ). update_checked (plan_in ys) u) (sym c.of.ensures) ∙ sym c.check_extra.ensures ∙
    c.in_ok-check_extra.was in
    let room : plan_end xs + 6 ≤ length xs = leb-true _ _ (sym c.if-not-has_room.ensures) in
    let fits : length (words (after (plan_in xs) u)) ≤ length xs =
    omega (arith, extra_length xs c.args.leg c.requires.whole) in
    applied xs u c.requires c.add_leg.new.words passed fits c.add_leg.ensures

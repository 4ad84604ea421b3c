use Rattle.std.proofs.Common.{◌≡◌, false, Err, sym, ap, ◌∙◌, arith, rules}
use borrow.Author.Tests.{tests}
use Rattle.plan.proofs.Firsts.{all_below_from, first_not_all, first_not_hit}
use Rattle.plan.proofs.checking.check_each.Goals as goal

pub returns-then-not-is_sound : goal.returns-then-not-is_sound
returns-then-not-is_sound g c f e sound told =
    let i = c.loop-i.i in
    let before = all_below_from f i (λ k l. sym (sound k _ (omega arith) (c.loop-i.invariant k l))) in
    let here = sound i _ (omega arith) c.is_sound.ensures in
    let bad : f i ≡ false = search (rules, tests) in
    ap Err (told i _ (omega arith) c.refusal.ensures) ∙ sym (first_not_hit f e i c.args.n (omega arith) (first_not_all f e i before) bad)

pub returns : goal.returns
returns g c f e sound told =
    sym (first_not_all f e c.args.n (all_below_from f c.args.n (λ k l. sym (sound k _ l (c.loop-i.invariant k (omega arith))))))

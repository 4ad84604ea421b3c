-- In the words of an office an update is refused by the rules alone: there is always room.
use Rattle.std.proofs.Common.{◌≡◌, ℕ, ◌≤◌, Bool, true, cond, leb, List, length, Ok, Err, Result, refl, ap, ◌∙◌, subst, arith, le-leb}
use Rattle.plan.specs.declared.refusal.Refusal.{Refusal}
use Rattle.plan.specs.declared.refusal.Refusal.TheVariants.{Short}
use Rattle.plan.specs.Legs.{Plan}
use Rattle.plan.specs.Words.{plan_in, words}
use Rattle.plan.specs.Check.{then}
use Rattle.plan.specs.Sound.{Few, Usable}
use Rattle.plan.proofs.ReadBack.{length_words, read_written}
use Rattle.updates.specs.declared.update.Update.{Update}
use Rattle.updates.specs.Updates.{after, update_checked, fits_checked, left_by, Applied}
use Rattle.updates.proofs.StillUsable.{usable_after}
use Rattle.serving.specs.Runs.{if_done}

few_fits : (p : Plan) → Few p → length (words p) ≤ 6979
few_fits p f = omega (arith, length_words p, f.piers, f.legs, f.walks)

room_given : (o : Result Unit Refusal) (b : Bool) → (o ≡ Ok tt → b ≡ true) → then o (λ _. cond b (Ok tt) (Err Short)) ≡ o
room_given (Ok tt) b h = ap (λ (x : Bool). cond x (Ok tt) (Err Short)) (h refl)
room_given (Err e) b h = refl

module _ (xs : List ℕ) (u : Update) (h : Usable xs) (long : length xs ≡ 6979) where
  fits_always : fits_checked (plan_in xs) u (length xs) ≡ update_checked (plan_in xs) u
  fits_always =
      room_given (update_checked (plan_in xs) u) (leb (length (words (after (plan_in xs) u))) (length xs))
      (λ e. le-leb _ _ (omega (
        arith,
        few_fits (after (plan_in xs) u)
            (subst Few (read_written (after (plan_in xs) u) xs) (usable_after xs u h e).few),
      )))

  pub applied_says : {r : Result Unit Refusal} {ys : List ℕ} → Applied xs u r ys → r ≡ update_checked (plan_in xs) u
  applied_says a = a.result ∙ fits_always

  pub applied_plan : {r : Result Unit Refusal} {ys : List ℕ} → Applied xs u r ys →
      plan_in ys ≡ if_done r (after (plan_in xs) u) (plan_in xs)
  applied_plan {r} {ys} a = ap plan_in a.memory ∙ by r
    where
      by : (o : Result Unit Refusal) → plan_in (left_by o xs u) ≡ if_done o (after (plan_in xs) u) (plan_in xs)
      by (Ok _) = read_written (after (plan_in xs) u) xs
      by (Err e) = refl

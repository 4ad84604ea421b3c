-- An update that is done, or refused: what is told of it, and what it leaves.
use Rattle.std.proofs.Common.{◌≡◌, ℕ, ◌+◌, ◌*◌, ◌<◌, ◌≤◌, true, false, cond, leb, List, [], ◌∷◌, ◌++◌, length, get_or, Ok, Err, Result, sym, refl, ap, ◌∙◌, subst, arith}
use Rattle.std.specs.List.{remove}
use Rattle.std.proofs.lemmas.List.Edits.{length-remove}
use Rattle.std.proofs.lemmas.List.{length-map, length_push}
use Rattle.std.proofs.lemmas.Bool.{le-leb}
use Rattle.plan.specs.declared.counts.Counts.{Counts}
use Rattle.plan.specs.declared.leg.Leg.{Leg}
use Rattle.plan.specs.declared.name.LegName.{LegName}
use Rattle.plan.specs.declared.refusal.Refusal.{Refusal}
use Rattle.plan.specs.declared.refusal.Refusal.TheVariants.{Short}
use Rattle.plan.specs.Legs.{Plan, leg, with_legs}
use Rattle.plan.specs.Words.{plan_in, plan_end, Whole, words, written}
use Rattle.plan.specs.Check.{then, plan_checked}
use Rattle.plan.specs.Sound.{Usable}
use Rattle.plan.proofs.Parts.{count_piers, count_legs, count_walks}
use Rattle.plan.proofs.ReadBack.{length_words, read_written}
use Rattle.updates.specs.declared.update.Update.{Update}
use Rattle.updates.specs.declared.update.Update.TheVariants.{Delay, Cancel, Extra}
use Rattle.updates.specs.Updates.{delayed_leg, named, without, after, update_checked, fits_checked, update_in, left_by, told_by, Applied, Updated}
use Rattle.updates.proofs.Known.{known_here, without_is}
use Rattle.updates.proofs.StillUsable.{usable_after}

-- ---- refused
abbrev room : Plan → Update → ℕ → Result Unit Refusal
room p u n = cond (leb (length (words (after p u))) n) (Ok tt) (Err Short)

module _ (xs : List ℕ) (u : Update) (h : Usable xs) where
  abbrev p : Plan
  p = plan_in xs

  pub refused_by_rule : (e : Refusal) → Err e ≡ update_checked p u → Applied xs u (Err e) xs
  refused_by_rule e r = record {
    result = ap (λ (q : Result Unit Refusal). then q (λ _. room p u (length xs))) r;
    memory = refl;
    usable = h;
  }

  pub refused_for_room : update_checked p u ≡ Ok tt → leb (length (words (after p u))) (length xs) ≡ false →
      Applied xs u (Err Short) xs
  refused_for_room r s = record { result = simp (r, s); memory = refl; usable = h }

  pub applied : (ys : List ℕ) → update_checked p u ≡ Ok tt → length (words (after p u)) ≤ length xs →
      ys ≡ written (after p u) xs → Applied xs u (Ok tt) ys
  applied ys r s is = record {
    result = let t = le-leb _ _ s in simp (r, t);
    memory = is;
    usable = subst Usable (sym is) (usable_after xs u h r);
  }

-- ---- how long the plan is then
length_with : (xs : List ℕ) (ls : List Leg) → Whole xs →
    length (words (with_legs (plan_in xs) ls)) ≡ 3 + get_or xs 0 0 + 6 * length ls + 3 * get_or xs 2 0
length_with xs ls w = omega (arith, length_words (with_legs (plan_in xs) ls), count_piers xs w, count_walks xs)

pub delay_fits : (xs : List ℕ) (n : LegName) (d : ℕ) → Whole xs → length (words (after (plan_in xs) (Delay n d))) ≤ length xs
delay_fits xs n d w =
    omega (
      arith,
      w,
      length_with xs (after (plan_in xs) (Delay n d)).legs w,
      length-map (plan_in xs).legs
          (delayed_leg n d),
      count_legs xs,
    )

pub extra_length : (xs : List ℕ) (a : Leg) → Whole xs → length (words (after (plan_in xs) (Extra a))) ≡ plan_end xs + 6
extra_length xs a w =
    omega (arith, length_with xs ((plan_in xs).legs ++ a ∷ []) w, length_push (plan_in xs).legs a, count_legs xs)

-- ---- a leg is cancelled
module _ (xs : List ℕ) (n : LegName) (i : ℕ) (h : Usable xs) (l : i < length (plan_in xs).legs)
    (e : named n (leg (plan_in xs) i) ≡ true) where
  is : without n (plan_in xs).legs ≡ remove (plan_in xs).legs i
  is = without_is (plan_in xs) n i h.sound l e

  pub cancelled : (ys : List ℕ) → ys ≡ written (with_legs (plan_in xs) (remove (plan_in xs).legs i)) xs →
      Applied xs (Cancel n) (Ok tt) ys
  cancelled ys removed_is =
      let yes_known = known_here n (plan_in xs).legs i l e in
      let fits : length (words (after (plan_in xs) (Cancel n))) ≤ length xs =
      omega (
        arith,
        h.whole,
        length_with xs (without n (plan_in xs).legs) h.whole,
        ap length is,
        length-remove
            (plan_in xs).legs i l,
        count_legs xs,
      ) in
      applied xs (Cancel n) h ys (simp yes_known) fits
      (removed_is ∙ ap (λ ls. written (with_legs (plan_in xs) ls) xs) (sym is))

-- ---- over lent memory, once the plan was checked
pub told_done : (xs ys : List ℕ) (u : Update) (counts : Counts) (n : ℕ) → Ok counts ≡ plan_checked xs →
    Applied xs u (Ok tt) ys →
    n ≡ length (plan_in ys).legs → Updated xs u (Ok n) ys
told_done xs ys u counts n checked x many =
    let p₁ = after (plan_in xs) u in
    let done : update_in xs u ≡ Ok tt =
    ap (λ (q : Result Counts Refusal). then q (λ _. fits_checked (plan_in xs) u (length xs))) (sym checked) ∙ sym
    x.result in
    let now_has : n ≡ length p₁.legs =
    many ∙ ap (λ t. length (plan_in t).legs) x.memory ∙ ap (λ (q : Plan). length q.legs) (read_written p₁ xs) in
    record {
      reply = ap Ok now_has ∙ ap (λ (q : Result Unit Refusal). told_by q p₁) (sym done);
      memory = x.memory ∙ ap (λ (q : Result Unit Refusal). left_by q xs u) (sym done);
    }

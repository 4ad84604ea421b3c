-- Delays add up, and may come in either order.
use Rattle.std.proofs.Common.{◌≡◌, ℕ, ◌+◌, ◌<◌, Bool, true, false, cond, map, length, is_ok, Ok, Err, Result, sym, refl, ap, ◌∙◌, arith}
use mathlib.Core.List.{map-map}
use Rattle.std.proofs.lemmas.List.{length-map, get_or-map}
use Rattle.std.proofs.lemmas.Bool.{cond-true, cond-false}
use Rattle.std.proofs.lemmas.Bool.Decides.{nat_tests}
use Rattle.plan.specs.declared.leg.Leg.{Leg}
use Rattle.plan.specs.declared.name.LegName.{LegName}
use Rattle.plan.specs.declared.refusal.Refusal.{Refusal}
use Rattle.plan.specs.declared.refusal.Refusal.TheVariants.{TooLate}
use Rattle.plan.specs.Legs.{Plan, leg, no_leg, with_legs}
use Rattle.plan.proofs.Firsts.{all_below_from, first_not_ok}
use Rattle.updates.specs.declared.update.Update.TheVariants.{Delay}
use Rattle.updates.specs.Updates.{touched, later, delayed_leg, in_time, after, update_checked}
use Rattle.updates.proofs.Delays.{leg_in_time}
use Rattle.laws.specs.UpdateLaws.{DelaysAdd, DelaysSwap}

-- ---- one leg
later_twice : (d e : ℕ) (a : Leg) → later e (later d a) ≡ later (d + e) a
later_twice d e a =
    let l : (a.leaves + d) + e ≡ a.leaves + (d + e) = omega arith in
    let c : (a.comes + d) + e ≡ a.comes + (d + e) = omega arith in
    λ i. record { run = a.run; number = a.number; from = a.from; to = a.to; leaves = l i; comes = c i }

later_swap : (d e : ℕ) (a : Leg) → later e (later d a) ≡ later d (later e a)
later_swap d e a =
    let o : d + e ≡ e + d = omega arith in
    later_twice d e a ∙ ap (λ t. later t a) o ∙ sym (later_twice e d a)

-- A leg that is later has its run and number as before: what touches it is the same.
delayed_twice : (n : LegName) (d e : ℕ) (a : Leg) → delayed_leg n e (delayed_leg n d a) ≡ delayed_leg n (d + e) a
delayed_twice n d e a = by (touched n a) refl
  where
    by : (v : Bool) → touched n a ≡ v → delayed_leg n e (cond v (later d a) a) ≡ cond v (later (d + e) a) a
    by true h = cond-true (touched n a) _ _ h ∙ later_twice d e a
    by false h = cond-false (touched n a) _ _ h

delayed_swap : (n : LegName) (d : ℕ) (m : LegName) (e : ℕ) (a : Leg) →
    delayed_leg m e (delayed_leg n d a) ≡ delayed_leg n d (delayed_leg m e a)
delayed_swap n d m e a = by (touched n a) (touched m a) refl refl
  where
    by : (v w : Bool) → touched n a ≡ v → touched m a ≡ w →
        delayed_leg m e (cond v (later d a) a) ≡ delayed_leg n d (cond w (later e a) a)
    by true true f g = cond-true (touched m a) _ _ g ∙ later_swap d e a ∙ sym (cond-true (touched n a) _ _ f)
    by true false f g = cond-false (touched m a) _ _ g ∙ sym (cond-true (touched n a) _ _ f)
    by false true f g = cond-true (touched m a) _ _ g ∙ sym (cond-false (touched n a) _ _ f)
    by false false f g = cond-false (touched m a) _ _ g ∙ sym (cond-false (touched n a) _ _ f)

-- ---- all legs
pub delays_swap : DelaysSwap
delays_swap p n d m e =
    ap (with_legs p)
    (map-map (delayed_leg m e) (delayed_leg n d) p.legs
    ∙ (λ i. map (λ a. delayed_swap n d m e a i) p.legs)
    ∙ sym (map-map (delayed_leg n d) (delayed_leg m e) p.legs))

-- ---- whether they are done
module _ (p : Plan) (n : LegName) (d e : ℕ) where
  now : (i : ℕ) → i < length p.legs → leg (after p (Delay n d)) i ≡ delayed_leg n d (leg p i)
  now i l = get_or-map (delayed_leg n d) p.legs i no_leg no_leg l

  many : length (after p (Delay n d)).legs ≡ length p.legs
  many = length-map p.legs (delayed_leg n d)

  later_in_time : (a : Leg) → in_time n (d + e) a ≡ true →
      (in_time n d a ≡ true) × (in_time n e (delayed_leg n d a) ≡ true)
  later_in_time a h = (grind (arith, nat_tests), grind (arith, nat_tests))

  both_in_time : (a : Leg) → in_time n e (delayed_leg n d a) ≡ true → in_time n (d + e) a ≡ true
  both_in_time a h = grind (arith, nat_tests)

-- a delay is done if no leg that it touches is too late
ok_is : (o : Result Unit Refusal) → is_ok o ≡ true → o ≡ Ok tt
ok_is (Ok tt) h = refl
ok_is (Err x) h = grind (arith, nat_tests)

delay_done : (p : Plan) (n : LegName) (d : ℕ) → ((i : ℕ) → i < length p.legs → in_time n d (leg p i) ≡ true) →
    update_checked p (Delay n d) ≡ Ok tt
delay_done p n d h =
    let test = λ (i : ℕ). in_time n d (leg p i) in
    ok_is _ (first_not_ok test TooLate (length p.legs) ∙ all_below_from test (length p.legs) h)

pub delays_add : DelaysAdd
delays_add p n d e = record {
  plan = ap (with_legs p)
      (map-map (delayed_leg n e) (delayed_leg n d) p.legs
      ∙ (λ i. map (λ a. delayed_twice n d e a i) p.legs));
  done_by_one = λ f g. delay_done p n (d + e) (λ i l.
      both_in_time p n d e (leg p i)
      (sym (ap (in_time n e) (now p n d e i l))
      ∙ leg_in_time (after p (Delay n d)) n e g i (omega (arith, many p n d e))));
  done_by_two = λ f. (
    delay_done p n d (λ i l. (later_in_time p n d e (leg p i) (leg_in_time p n (d + e) f i l)).0),
    delay_done (after p (Delay n d)) n e (λ i l.
        let l₁ : i < length p.legs = omega (arith, many p n d e) in
        ap (in_time n e) (now p n d e i l₁)
        ∙ (later_in_time p n d e (leg p i) (leg_in_time p n (d + e) f i l₁)).1),
  );
}

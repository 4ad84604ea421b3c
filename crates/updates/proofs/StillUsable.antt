-- A plan that may be used may still be used after an update.
use Rattle.std.proofs.Common.{◌≡◌, ℕ, ◌+◌, ◌<◌, ◌≤◌, Bool, true, false, cond, leb, ◌⊎◌, List, [], ◌∷◌, ◌++◌, length, get_or, Ok, sym, refl, ap, ◌∙◌, subst, inl, inr, arith}
use Rattle.std.specs.List.{remove}
use Rattle.std.proofs.lemmas.List.Edits.{length-remove, get_or-remove_below, get_or-remove_above}
use Rattle.std.proofs.lemmas.List.{length-map, get_or-map, length_push, get_or_push, get_or_append_left}
use Rattle.std.proofs.lemmas.Bool.{cases_lt, both_ways, and_from, eq-eqb}
use Rattle.std.proofs.lemmas.Bool.Decides.{nat_tests}
use Rattle.plan.specs.declared.leg.Leg.{Leg}
use Rattle.plan.specs.declared.name.LegName.{LegName}
use Rattle.plan.specs.Legs.{Plan, leg, name, no_leg, piers, with_legs, leg_within}
use Rattle.plan.specs.Words.{plan_in, written}
use Rattle.plan.specs.Sound.{LegWithin, Sound, Few, Usable}
use Rattle.plan.proofs.Laws.{within_leg}
use Rattle.plan.proofs.Written.{usable_written}
use Rattle.updates.specs.declared.update.Update.{Update}
use Rattle.updates.specs.declared.update.Update.TheVariants.{Delay, Cancel, Extra}
use Rattle.updates.specs.Updates.{touched, later, delayed_leg, delayed, named, known, in_time, after, update_checked}
use Rattle.updates.proofs.Known.{not_known, known_place, without_is}
use Rattle.updates.proofs.Delays.{leg_in_time}

-- ---- a delay: the names stay, the times stay within their bounds
named_as : (n : LegName) (d : ℕ) (a : Leg) → ((delayed_leg n d a).run ≡ a.run) × ((delayed_leg n d a).number ≡ a.number)
named_as n d a = by (touched n a)
  where
    by : (v : Bool) → ((cond v (later d a) a).run ≡ a.run) × ((cond v (later d a) a).number ≡ a.number)
    by true = (refl, refl)
    by false = (refl, refl)

delayed_within : (s : ℕ) (n : LegName) (d : ℕ) (a : Leg) → LegWithin s a → in_time n d a ≡ true →
    LegWithin s (delayed_leg n d a)
delayed_within s n d a w t = by (touched n a) refl
  where
    by : (v : Bool) → touched n a ≡ v → LegWithin s (cond v (later d a) a)
    by true e = record {
      run = w.run;
      number = w.number;
      from = w.from;
      to = w.to;
      leaves = grind (arith, nat_tests);
      comes = grind (arith, nat_tests);
    }
    by false e = w

sound_delayed : (p : Plan) (n : LegName) (d : ℕ) → Sound p → update_checked p (Delay n d) ≡ Ok tt →
    Sound (after p (Delay n d))
sound_delayed p n d s h = record {
  legs = λ i l. subst (LegWithin (piers p)) (sym (is i (within i l)))
      (delayed_within (piers p) n d (leg p i) (s.legs i (within i l)) (leg_in_time p n d h i (within i l)));
  apart = λ i j li lj e f.
      s.apart i j (within i li) (within j lj)
      (sym (named_as n d (leg p i)).0 ∙ ap (λ a. a.run) (sym (is i (within i li))) ∙ e ∙ ap (λ a. a.run)
      (is j (within j lj)) ∙ (named_as n d (leg p j)).0)
      (sym (named_as n d (leg p i)).1 ∙ ap (λ a. a.number) (sym (is i (within i li))) ∙ f ∙ ap (λ a. a.number)
      (is j (within j lj)) ∙ (named_as n d (leg p j)).1);
  walks = s.walks;
  changes = s.changes;
}
  where
    within : (i : ℕ) → i < length (delayed n d p.legs) → i < length p.legs
    within i l = omega (arith, length-map p.legs (delayed_leg n d))

    is : (i : ℕ) → i < length p.legs → get_or (delayed n d p.legs) i no_leg ≡ delayed_leg n d (leg p i)
    is i l = get_or-map (delayed_leg n d) p.legs i no_leg no_leg l

-- ---- a leg is taken out: the others are legs of the plan, each once
record Stood (ls : List Leg) (i j : ℕ) : Type 0 where
  place : ℕ
  within : place < length ls
  is : get_or (remove ls i) j no_leg ≡ get_or ls place no_leg
  where_it_was : ((j < i) × (place ≡ j)) ⊎ ((i ≤ j) × (place ≡ j + 1))

stood : (ls : List Leg) (i j : ℕ) → i < length ls → j < length (remove ls i) → Stood ls i j
stood ls i j h l =
    let n = length-remove ls i h in
    elim (cases_lt j i) [
      | inl b ↦
          record {
            place = j;
            within = omega arith;
            is = get_or-remove_below ls i no_leg j b h;
            where_it_was = inl
                (b, refl);
          }
      | inr b ↦
          record {
            place = j + 1;
            within = omega arith;
            is = get_or-remove_above ls i no_leg j b h;
            where_it_was = inr
                (b, refl);
          }
    ]

stood_apart : (i j m a b : ℕ) → ((j < i) × (a ≡ j)) ⊎ ((i ≤ j) × (a ≡ j + 1)) →
    ((m < i) × (b ≡ m)) ⊎ ((i ≤ m) × (b ≡ m + 1)) → a ≡ b → j ≡ m
stood_apart i j m a b (inl x) (inl y) e = omega (arith, x.0, x.1, y.0, y.1)
stood_apart i j m a b (inl x) (inr y) e = omega (arith, x.0, x.1, y.0, y.1)
stood_apart i j m a b (inr x) (inl y) e = omega (arith, x.0, x.1, y.0, y.1)
stood_apart i j m a b (inr x) (inr y) e = omega (arith, x.0, x.1, y.0, y.1)

sound_removed : (p : Plan) (i : ℕ) → Sound p → i < length p.legs → Sound (with_legs p (remove p.legs i))
sound_removed p i s h = record {
  legs = λ j l. let x = stood p.legs i j h l in subst (LegWithin (piers p)) (sym x.is)
      (s.legs x.place x.within);
  apart = λ j m lj lm e f.
      let x = stood p.legs i j h lj in
      let y = stood p.legs i m h lm in
      stood_apart i j m x.place y.place x.where_it_was y.where_it_was
      (s.apart x.place y.place x.within y.within
      (ap (λ a. a.run) (sym x.is) ∙ e ∙ ap (λ a. a.run) y.is)
      (ap (λ a. a.number) (sym x.is) ∙ f ∙ ap (λ a. a.number) y.is));
  walks = s.walks;
  changes = s.changes;
}

-- ---- a leg more, of a name that is not there
record FitsIn (p : Plan) (a : Leg) : Type 0 where
  within : leg_within (piers p) a ≡ true
  new : known (name a) p.legs ≡ false
  few : leb 1024 (length p.legs) ≡ false

fits_in : (p : Plan) (a : Leg) → update_checked p (Extra a) ≡ Ok tt → FitsIn p a
fits_in p a e = record { within = grind (arith, nat_tests); new = grind (arith, nat_tests); few = grind (arith, nat_tests) }

module _ (p : Plan) (a : Leg) (s : Sound p) (x : FitsIn p a) where
  abbrev more : List Leg
  more = p.legs ++ a ∷ []

  stands : (i : ℕ) → i < length more →
      ((i < length p.legs) × (get_or more i no_leg ≡ leg p i)) ⊎ ((i ≡ length p.legs) × (get_or more i no_leg ≡ a))
  stands i l = elim (cases_lt i (length p.legs)) [
    | inl b ↦ inl (b, get_or_append_left p.legs (a ∷ []) no_leg i b)
    | inr b ↦
        let e : length p.legs ≡ i = omega (arith, length_push p.legs a) in
        inr (sym e, get_or_push p.legs a no_leg i e)
  ]

  not_there : (i : ℕ) → i < length p.legs → (leg p i).run ≡ a.run → (leg p i).number ≡ a.number → ⊥
  not_there i l e f =
      both_ways (named (name a) (leg p i)) (not_known (name a) p.legs x.new i l)
      (and_from _ _ (eq-eqb _ _ e) (eq-eqb _ _ f))

  added_within : (i : ℕ) → i < length more → LegWithin (piers p) (get_or more i no_leg)
  added_within i l = elim (stands i l) [
    | inl b ↦ subst (LegWithin (piers p)) (sym b.1) (s.legs i b.0)
    | inr b ↦ subst (LegWithin (piers p)) (sym b.1) (within_leg (piers p) a x.within)
  ]

  added_apart : (i j : ℕ) → i < length more → j < length more → (get_or more i no_leg).run ≡ (get_or more j no_leg).run →
      (get_or more i no_leg).number ≡ (get_or more j no_leg).number → i ≡ j
  added_apart i j li lj e f = elim (stands i li) [
    | inl b ↦ elim (stands j lj) [
      | inl c ↦
          s.apart i j b.0 c.0 (ap (λ q. q.run) (sym b.1) ∙ e ∙ ap (λ q. q.run) c.1)
          (ap (λ q. q.number) (sym b.1) ∙ f ∙ ap (λ q. q.number) c.1)
      | inr c ↦ absurd (not_there i b.0 (ap (λ q. q.run) (sym b.1) ∙ e ∙ ap (λ q. q.run) c.1)
          (ap (λ q. q.number) (sym b.1) ∙ f ∙ ap (λ q. q.number) c.1))
    ]
    | inr b ↦ elim (stands j lj) [
      | inl c ↦ absurd (not_there j c.0 (ap (λ q. q.run) (sym c.1) ∙ sym e ∙ ap (λ q. q.run) b.1)
          (ap (λ q. q.number) (sym c.1) ∙ sym f ∙ ap (λ q. q.number) b.1))
      | inr c ↦ b.0 ∙ sym c.0
    ]
  ]

  sound_added : Sound (with_legs p more)
  sound_added = record { legs = added_within; apart = added_apart; walks = s.walks; changes = s.changes }

-- ---- any of them
record Good (p : Plan) : Type 0 where
  few : Few p
  sound : Sound p

known_from : (p : Plan) (n : LegName) → update_checked p (Cancel n) ≡ Ok tt → known n p.legs ≡ true
known_from p n e = grind (arith, nat_tests)

good_after : (p : Plan) (u : Update) → Few p → Sound p → update_checked p u ≡ Ok tt → Good (after p u)
good_after p (Delay n d) f s e = record {
  few = record {
    piers = f.piers;
    legs = omega (arith, f.legs, length-map p.legs (delayed_leg n d));
    walks =
        f.walks;
  };
  sound = sound_delayed p n d s e;
}
good_after p (Cancel n) f s e =
    let x = known_place n p.legs (known_from p n e) in
    let is = without_is p n x.0 s x.1.0 x.1.1 in
    let n = length-remove p.legs x.0 x.1.0 in
    record {
      few = record { piers = f.piers; legs = omega (arith, f.legs, ap length is); walks = f.walks };
      sound = subst (λ ls. Sound (with_legs p ls)) (sym is) (sound_removed p x.0 s x.1.0);
    }
good_after p (Extra a) f s e =
    let x = fits_in p a e in
    record {
      few = record {
        piers = f.piers;
        legs =
            (let b = x.few in let n = length_push p.legs a in grind (arith, nat_tests));
        walks = f.walks;
      };
      sound = sound_added p a s x;
    }

pub usable_after : (xs : List ℕ) (u : Update) → Usable xs → update_checked (plan_in xs) u ≡ Ok tt →
    Usable (written (after (plan_in xs) u) xs)
usable_after xs u h e =
    let g = good_after (plan_in xs) u h.few h.sound e in
    usable_written (after (plan_in xs) u) xs g.few g.sound

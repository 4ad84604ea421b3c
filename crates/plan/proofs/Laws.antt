-- A plan is not refused exactly if it may be used.
use Rattle.std.proofs.Common.{◌≡◌, ℕ, ◌<◌, ◌≤◌, true, not, ◌&&◌, leb, List, length, get_or, is_ok, Ok, Err, Result, sym, refl, ap, ◌∙◌, inl, inr, arith}
use Rattle.std.proofs.lemmas.Bool.{cases_order, cases_Bool, and_parts, and_from, not-true, not_from_false, both_ways, eqb-true, eq-eqb, ltb-true, lt-ltb, leb-true}
use Rattle.std.proofs.lemmas.Bool.Decides.{nat_tests}
use Rattle.plan.specs.declared.refusal.Refusal.{Refusal}
use Rattle.plan.specs.declared.refusal.Refusal.TheVariants.{BadLeg, BadWalk, BadChange}
use Rattle.plan.specs.declared.counts.Counts.{Counts}
use Rattle.plan.specs.declared.leg.Leg.{Leg}
use Rattle.plan.specs.declared.walk.Walk.{Walk}
use Rattle.plan.specs.Legs.{Plan, leg, walk, change_at, piers, same_name, leg_within, walk_within, time_bound}
use Rattle.plan.specs.Words.{plan_in, plan_end, Whole}
use Rattle.plan.specs.Check.{then, all_below, is_new, fits, leg_ok, walk_ok, change_ok, legs_checked, walks_checked, changes_checked, parts_checked, counts_checked, plan_checked, sound_words}
use Rattle.plan.specs.Sound.{LegWithin, WalkWithin, Sound, Few, Usable}
use Rattle.plan.specs.Keys.{all_fit}
use Rattle.plan.proofs.Firsts.{all_below_all, all_below_from, first_not_ok}
use Rattle.plan.proofs.Parts.{count_legs, count_walks, count_piers}

-- ---- bounds, as tests and as facts
pub within_leg : (n : ℕ) (a : Leg) → leg_within n a ≡ true → LegWithin n a
within_leg n a h = record {
  run = grind (arith, nat_tests);
  number = grind (arith, nat_tests);
  from = grind (arith, nat_tests);
  to = grind (arith, nat_tests);
  leaves = grind (arith, nat_tests);
  comes = grind (arith, nat_tests);
}

pub leg_fits : (n : ℕ) (a : Leg) → LegWithin n a → leg_within n a ≡ true
leg_fits n a w = grind (arith, nat_tests)

within_walk : (n : ℕ) (w : Walk) → walk_within n w ≡ true → WalkWithin n w
within_walk n w h = record { from = grind (arith, nat_tests); to = grind (arith, nat_tests); takes = grind (arith, nat_tests) }

walk_fits : (n : ℕ) (w : Walk) → WalkWithin n w → walk_within n w ≡ true
walk_fits n w h = grind (arith, nat_tests)

pub fit_within : (p : Plan) → all_fit p ≡ true → (i : ℕ) → i < length p.legs → LegWithin (piers p) (leg p i)
fit_within p h i l = within_leg (piers p) (leg p i) (all_below_all (fits p) (length p.legs) h i l)

-- ---- every leg is sound exactly if all are within their bounds and no two have one name
leg_is : (p : Plan) → all_below (leg_ok p) (length p.legs) ≡ true → (i : ℕ) → i < length p.legs → (fits p i ≡ true) × (is_new p i ≡ true)
leg_is p h i l = and_parts (fits p i) (is_new p i) (all_below_all (leg_ok p) (length p.legs) h i l)

new_apart : (p : Plan) (i j : ℕ) → is_new p i ≡ true → j < i → (leg p i).run ≡ (leg p j).run → (leg p i).number ≡ (leg p j).number → ⊥
new_apart p i j h l r n =
    let t = not-true _ (all_below_all (λ k. not (same_name (leg p i) (leg p k))) i h j l) in
    both_ways _ t (and_from _ _ (eq-eqb _ _ r) (eq-eqb _ _ n))

pub legs_apart : (p : Plan) → all_below (leg_ok p) (length p.legs) ≡ true → (i j : ℕ) → i < length p.legs → j < length p.legs →
    (leg p i).run ≡ (leg p j).run → (leg p i).number ≡ (leg p j).number → i ≡ j
legs_apart p h i j hi hj r n = elim (cases_order i j) [
  | inl e ↦ e
  | inr o ↦ elim o [
    | inl l ↦ absurd (new_apart p j i (leg_is p h j hj).1 l (sym r) (sym n))
    | inr l ↦ absurd (new_apart p i j (leg_is p h i hi).1 l r n)
  ]
]

pub legs_ok : (p : Plan) → all_fit p ≡ true →
    ((i j : ℕ) → i < length p.legs → j < length p.legs → (leg p i).run ≡ (leg p j).run → (leg p i).number ≡ (leg p j).number → i ≡ j) →
    all_below (leg_ok p) (length p.legs) ≡ true
legs_ok p h apart = all_below_from (leg_ok p) (length p.legs) (λ i l.
    and_from (fits p i) (is_new p i) (all_below_all (fits p) (length p.legs) h i l) (all_below_from _ i (λ j k. new i l j k)))
  where
    new : (i : ℕ) → i < length p.legs → (j : ℕ) → j < i → not (same_name (leg p i) (leg p j)) ≡ true
    new i l j k = elim (cases_Bool (same_name (leg p i) (leg p j))) [
      | inl t ↦
          let b = and_parts _ _ t in
          let e = apart i j l (omega arith) (eqb-true _ _ b.0) (eqb-true _ _ b.1) in
          absurd (omega arith)
      | inr f ↦ not_from_false _ f
    ]

-- ---- the parts of a plan
then_ok : (a b : Result Unit Refusal) → is_ok {T = Unit {0}} {E = Refusal} (then a (λ _. b)) ≡ is_ok a && is_ok b
then_ok (Ok u) b = refl
then_ok (Err e) b = refl

parts_ok : (p : Plan) → is_ok (parts_checked p)
    ≡ all_below (leg_ok p) (length p.legs) && (all_below (walk_ok p) (length p.walks) && all_below (change_ok p) (piers p))
parts_ok p =
    let l = first_not_ok (leg_ok p) BadLeg (length p.legs) in
    let w = first_not_ok (walk_ok p) BadWalk (length p.walks) in
    let c = first_not_ok (change_ok p) BadChange (piers p) in
    then_ok (legs_checked p) (then (walks_checked p) (λ _. changes_checked p))
    ∙ (λ i. l i && then_ok (walks_checked p) (changes_checked p) i)
    ∙ (λ i. all_below (leg_ok p) (length p.legs) && (w i && c i))

pub sound_from_checked : (p : Plan) → is_ok (parts_checked p) ≡ true → Sound p
sound_from_checked p h =
    let ls = all_below (leg_ok p) (length p.legs) in
    let ws = all_below (walk_ok p) (length p.walks) in
    let cs = all_below (change_ok p) (piers p) in
    let all = and_parts ls (ws && cs) (sym (parts_ok p) ∙ h) in
    let rest = and_parts ws cs all.1 in
    record {
      legs = λ i l. within_leg (piers p) (leg p i) (leg_is p all.0 i l).0;
      apart = legs_apart p all.0;
      walks = λ j l. within_walk (piers p) (walk p j) (all_below_all (walk_ok p) (length p.walks) rest.0 j l);
      changes = λ s l. ltb-true _ _ (all_below_all (change_ok p) (piers p) rest.1 s l);
    }

pub checked_from_sound : (p : Plan) → Sound p → is_ok (parts_checked p) ≡ true
checked_from_sound p s =
    parts_ok p
    ∙ and_from _ _ (legs_ok p (all_below_from (fits p) (length p.legs) (λ i l. leg_fits (piers p) (leg p i) (s.legs i l))) s.apart)
    (and_from _ _ (all_below_from (walk_ok p) (length p.walks) (λ j l. walk_fits (piers p) (walk p j) (s.walks j l)))
    (all_below_from (change_ok p) (piers p) (λ i l. lt-ltb _ _ (s.changes i l))))

-- ---- the whole plan
counts_few : (xs : List ℕ) → is_ok (counts_checked xs) ≡ true → (3 ≤ length xs) × Whole xs × (get_or xs 0 0 ≤ 64) × (get_or xs 1 0 ≤ 1024) × (get_or xs 2 0 ≤ 256)
counts_few xs h = (grind (arith, nat_tests), grind (arith, nat_tests), grind (arith, nat_tests), grind (arith, nat_tests), grind (arith, nat_tests))

few_counts : (xs : List ℕ) → 3 ≤ length xs → Whole xs → get_or xs 0 0 ≤ 64 → get_or xs 1 0 ≤ 1024 → get_or xs 2 0 ≤ 256 → is_ok (counts_checked xs) ≡ true
few_counts xs a b c d e = grind (arith, nat_tests)

then_ok_counts : (a : Result Counts Refusal) (b : Result Unit Refusal) → is_ok {T = Counts} {E = Refusal} (then a (λ c. then b (λ _. Ok c))) ≡ is_ok a && is_ok b
then_ok_counts (Ok c) (Ok u) = refl
then_ok_counts (Ok c) (Err e) = refl
then_ok_counts (Err e) b = refl

pub whole_few : (xs : List ℕ) → is_ok (counts_checked xs) ≡ true → Whole xs × Few (plan_in xs)
whole_few xs h =
    let k = counts_few xs h in
    let w : Whole xs = k.1 in
    let a = count_piers xs w in
    let b = count_legs xs in
    let c = count_walks xs in
    (w, record { piers = omega (arith, k.2); legs = omega (arith, k.3); walks = omega (arith, k.4) })

-- what the counts say, once they were read
pub record Counted (xs : List ℕ) (c : Counts) : Type 0 where
  pub whole : Whole xs
  pub few : Few (plan_in xs)
  pub legs : c.legs ≡ length (plan_in xs).legs
  pub room : c.legs ≤ 1024

pub counted : (xs : List ℕ) (c : Counts) → Ok c ≡ counts_checked xs → Counted xs c
counted xs c h =
    let w = whole_few xs (ap is_ok (sym h)) in
    let n = count_legs xs in
    let l : c.legs ≡ get_or xs 1 0 = grind (arith, nat_tests) in
    record { whole = w.0; few = w.1; legs = l ∙ sym n; room = omega (arith, w.1.legs) }

pub usable : (xs : List ℕ) → is_ok (plan_checked xs) ≡ true → Usable xs
unfolding plan_checked
usable xs h =
    let both = and_parts _ _ (sym (then_ok_counts (counts_checked xs) (parts_checked (plan_in xs))) ∙ h) in
    let w = whole_few xs both.0 in
    record { long = (counts_few xs both.0).0; whole = w.0; few = w.1; sound = sound_from_checked (plan_in xs) both.1 }

pub not_refused : (xs : List ℕ) → Usable xs → is_ok (plan_checked xs) ≡ true
unfolding plan_checked
not_refused xs u =
    let a = count_piers xs u.whole in
    let b = count_legs xs in
    let c = count_walks xs in
    let f = u.few in
    then_ok_counts (counts_checked xs) (parts_checked (plan_in xs))
    ∙ and_from _ _ (few_counts xs u.long u.whole (omega (arith, f.piers)) (omega (arith, f.legs)) (omega (arith, f.walks))) (checked_from_sound (plan_in xs) u.sound)

-- every leg of a plan that is not refused has a key
pub checked_fit : (xs : List ℕ) → is_ok (plan_checked xs) ≡ true → is_ok (counts_checked xs) && all_fit (plan_in xs) ≡ true
unfolding plan_checked
checked_fit xs h =
    let p = plan_in xs in
    let both = and_parts _ _ (sym (then_ok_counts (counts_checked xs) (parts_checked p)) ∙ h) in
    let legs = (and_parts (all_below (leg_ok p) (length p.legs)) (all_below (walk_ok p) (length p.walks) && all_below (change_ok p) (piers p))
    (sym (parts_ok p) ∙ both.1)).0 in
    and_from _ _ both.0 (all_below_from (fits p) (length p.legs) (λ i l. (leg_is p legs i l).0))

pub opens : (xs : List ℕ) → is_ok (plan_checked xs) ≡ true → sound_words xs ≡ true
unfolding sound_words plan_checked
opens xs h =
    let both = and_parts _ _ (sym (then_ok_counts (counts_checked xs) (parts_checked (plan_in xs))) ∙ h) in
    let w : Whole xs = (counts_few xs both.0).1 in
    and_from _ _ (grind (arith, nat_tests)) both.1

pub usable_opens : (xs : List ℕ) → Usable xs → sound_words xs ≡ true
usable_opens xs u = opens xs (not_refused xs u)

-- ---- what words that hold a sound plan give
module _ (xs : List ℕ) (h : sound_words xs ≡ true) where
  pub sound_whole : Whole xs
  unfolding sound_words
  sound_whole = leb-true _ _ (and_parts (leb (plan_end xs) (length xs)) (is_ok (parts_checked (plan_in xs))) h).0

  pub sound_plan : Sound (plan_in xs)
  unfolding sound_words
  sound_plan = sound_from_checked (plan_in xs) (and_parts (leb (plan_end xs) (length xs)) (is_ok (parts_checked (plan_in xs))) h).1

  pub sound_leg : (i : ℕ) → i < length (plan_in xs).legs → LegWithin (piers (plan_in xs)) (leg (plan_in xs) i)
  sound_leg i l = sound_plan.legs i l

  -- every leg has a key
  pub sound_fit : all_fit (plan_in xs) ≡ true
  sound_fit =
      all_below_from (fits (plan_in xs)) (length (plan_in xs).legs) (λ i l. leg_fits (piers (plan_in xs)) (leg (plan_in xs) i) (sound_leg i l))

  pub sound_walk : (j : ℕ) → j < length (plan_in xs).walks → WalkWithin (piers (plan_in xs)) (walk (plan_in xs) j)
  sound_walk j l = sound_plan.walks j l

  pub sound_change : (s : ℕ) → s < piers (plan_in xs) → change_at (plan_in xs) s < time_bound
  sound_change s l = sound_plan.changes s l

-- the same, as the timetable is proved from it
pub ruleset sound_parts = (sound_leg, sound_walk, sound_change, sound_fit)

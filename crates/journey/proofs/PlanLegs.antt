-- Legs of a plan: a leg is what its six numbers are, and each leg of a plan has a place in it.
use Rattle.std.proofs.Common.{◌≡◌, ℕ, zero, suc, ◌<◌, true, false, ◌||◌, ◌⊎◌, List, [], ◌∷◌, ◌++◌, length, get_or, sym, refl, ◌∙◌, subst, inl, inr, ⊎_elim, arith}
use Rattle.std.proofs.lemmas.Bool.{false≢true, or_cases, or_left, or_right}
use Rattle.std.proofs.lemmas.Bool.Decides.{nat_tests}
use Rattle.std.specs.List.{AllByRecursion}
use Rattle.plan.specs.declared.leg.Leg.{Leg}
use Rattle.plan.specs.Legs.{Plan, runs, no_leg, leg, piers}
use Rattle.plan.specs.Sound.{Sound, LegWithin}
use Rattle.journey.specs.Journeys.{same_leg, in_plan}
use Rattle.journey.specs.Aboard.{Usable}

pub leg_is : (a b : Leg) → a.run ≡ b.run → a.number ≡ b.number → a.from ≡ b.from → a.to ≡ b.to →
    a.leaves ≡ b.leaves → a.comes ≡ b.comes → a ≡ b
leg_is a b r n f t l c = λ i. record { run = r i; number = n i; from = f i; to = t i; leaves = l i; comes = c i }

pub same_leg_is : (a b : Leg) → same_leg a b ≡ true → a ≡ b
same_leg_is a b e =
    leg_is a b
    (grind (arith, nat_tests)) (grind (arith, nat_tests)) (grind (arith, nat_tests))
    (grind (arith, nat_tests)) (grind (arith, nat_tests)) (grind (arith, nat_tests))

pub same_leg_refl : (a : Leg) → same_leg a a ≡ true
same_leg_refl a = grind (arith, nat_tests)

pub in_plan_none : (a : Leg) → in_plan a [] ≡ false
unfolding in_plan
in_plan_none a = refl

-- a leg stands in the first place or in what follows
pub in_plan_more : (a b : Leg) (bs : List Leg) → in_plan a (b ∷ bs) ≡ (same_leg a b || in_plan a bs)
unfolding in_plan
in_plan_more a b bs = refl

pub in_plan_first : (a : Leg) (bs : List Leg) → in_plan a (a ∷ bs) ≡ true
unfolding in_plan
in_plan_first a bs = or_left (same_leg a a) (in_plan a bs) (same_leg_refl a)

pub in_plan_later : (a b : Leg) (bs : List Leg) → in_plan a bs ≡ true → in_plan a (b ∷ bs) ≡ true
unfolding in_plan
in_plan_later a b bs e = or_right (same_leg a b) (in_plan a bs) e

-- the leg is the first, or one of the others
pub in_plan_cases : (a b : Leg) (bs : List Leg) → in_plan a (b ∷ bs) ≡ true → (a ≡ b) ⊎ (in_plan a bs ≡ true)
unfolding in_plan
in_plan_cases a b bs e = ⊎_elim (λ h. inl (same_leg_is a b h)) inr (or_cases (same_leg a b) (in_plan a bs) e)

-- what holds of every leg of a list holds of a leg that is in it
pub in_plan_all : (P : Leg → Type 0) (a : Leg) (ls : List Leg) → AllByRecursion P ls → in_plan a ls ≡ true → P a
in_plan_all P a [] h e = absurd (false≢true (sym (in_plan_none a) ∙ e))
in_plan_all P a (b ∷ bs) h e =
    ⊎_elim (λ i. subst P (sym i) h.0) (λ i. in_plan_all P a bs h.1 i) (in_plan_cases a b bs e)

-- and each leg that is in it has a place
pub record Placed (a : Leg) (ls : List Leg) : Type 0 where
  pub place : ℕ
  pub within : place < length ls
  pub is : get_or ls place no_leg ≡ a

pub in_plan_place : (a : Leg) (ls : List Leg) → in_plan a ls ≡ true → Placed a ls
in_plan_place a [] e = absurd (false≢true (sym (in_plan_none a) ∙ e))
in_plan_place a (b ∷ bs) e =
    ⊎_elim
    (λ h. record { place = 0; within = omega arith; is = sym h })
    (λ h. let x = in_plan_place a bs h in record { place = suc x.place; within = omega arith; is = x.is })
    (in_plan_cases a b bs e)

pub place_in_plan : (ls : List Leg) (i : ℕ) → i < length ls → in_plan (get_or ls i no_leg) ls ≡ true
place_in_plan [] i h = absurd (omega arith)
place_in_plan (b ∷ bs) zero h = in_plan_first b bs
place_in_plan (b ∷ bs) (suc i) h = in_plan_later (get_or bs i no_leg) b bs (place_in_plan bs i (omega arith))

-- the numbers of each leg of a sound plan are within their bounds
pub in_plan_within : {p : Plan} → Sound p → (a : Leg) → in_plan a p.legs ≡ true → LegWithin (piers p) a
in_plan_within {p} s a e = let x = in_plan_place a p.legs e in subst (LegWithin (piers p)) x.is (s.legs x.place x.within)

-- a leg that can be used has a place, and the leg at a place can be used if it runs
pub usable_place : {p : Plan} {a : Leg} → Usable p a → Placed a p.legs
usable_place {p} {a} u = in_plan_place a p.legs u.known

pub usable_at : (p : Plan) (i : ℕ) → i < length p.legs → runs (leg p i) ≡ true → Usable p (leg p i)
usable_at p i h r = record { known = place_in_plan p.legs i h; going = r }

-- a leg of either list is one of both together
pub in_plan_append_left : (a : Leg) (ls ms : List Leg) → in_plan a ls ≡ true → in_plan a (ls ++ ms) ≡ true
unfolding in_plan
in_plan_append_left a [] ms e = absurd (false≢true e)
in_plan_append_left a (b ∷ bs) ms e = let ih = in_plan_append_left a bs ms in grind arith

pub in_plan_append_right : (a : Leg) (ls ms : List Leg) → in_plan a ms ≡ true → in_plan a (ls ++ ms) ≡ true
in_plan_append_right a [] ms e = e
in_plan_append_right a (b ∷ bs) ms e = in_plan_later a b (bs ++ ms) (in_plan_append_right a bs ms e)

-- The order of legs, and of journeys by their last legs.
use Rattle.std.proofs.Common.{◌≡◌, true, false, ◌⊎◌, List, [], ◌∷◌, refl, inl, inr, ⊎_elim, arith}
use Rattle.std.proofs.lemmas.Bool.{cases_Bool, or_left, or_right, and_from}
use Rattle.std.proofs.lemmas.Bool.Decides.{nat_tests}
use Rattle.plan.specs.declared.leg.Leg.{Leg}
use Rattle.plan.specs.Legs.{same_name}
use Rattle.journey.specs.Journeys.{same_leg, in_plan, NamedOnce}
use Rattle.journey.proofs.PlanLegs.{same_leg_refl}
use Rattle.itinerary.specs.Order.{before, precedes}

-- ---- two legs
neither_named : (a b : Leg) → before a b ≡ false → before b a ≡ false → same_name a b ≡ true
neither_named a b e f = grind (arith, nat_tests)

pub before_trans : (a b c : Leg) → before a b ≡ true → before b c ≡ true → before a c ≡ true
before_trans a b c e f = grind (arith, nat_tests)

-- run and number name one leg of the plan, so that of two legs of it one comes first
pub before_else : (ls : List Leg) → NamedOnce ls → (a b : Leg) → in_plan a ls ≡ true → in_plan b ls ≡ true →
    before a b ≡ false → (a ≡ b) ⊎ (before b a ≡ true)
before_else ls once a b i j e =
    ⊎_elim inr (λ f. inl (once a b i j (neither_named a b e f))) (cases_Bool (before b a))

-- ---- two lists of legs
pub precedes_here : (x y : Leg) (xs ys : List Leg) → before x y ≡ true → precedes (x ∷ xs) (y ∷ ys) ≡ true
unfolding precedes
precedes_here x y xs ys e = or_left (before x y) _ e

pub precedes_on : (x : Leg) (xs ys : List Leg) → precedes xs ys ≡ true → precedes (x ∷ xs) (x ∷ ys) ≡ true
unfolding precedes
precedes_on x xs ys e = or_right (before x x) _ (and_from (same_leg x x) _ (same_leg_refl x) e)

pub precedes_none : (y : Leg) (ys : List Leg) → precedes [] (y ∷ ys) ≡ true
unfolding precedes
precedes_none y ys = refl

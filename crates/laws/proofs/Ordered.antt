-- The order of journeys is strict, and total on the legs of a plan: so only one journey comes first.
use Rattle.std.proofs.Common.{◌≡◌, ℕ, true, ◌&&◌, ◌⊎◌, List, [], ◌∷◌, reverse, sym, refl, ap, ◌∙◌, subst, inl, inr, ⊎_elim, arith}
use mathlib.Core.List.{reverse_aux, reverse-reverse}
use Rattle.std.proofs.lemmas.Bool.{cases_Bool, false≢true, or_cases, and_parts}
use Rattle.std.proofs.lemmas.Bool.Decides.{nat_tests}
use Rattle.std.specs.List.{AllByRecursion}
use Rattle.plan.specs.declared.leg.Leg.{Leg}
use Rattle.journey.specs.Journeys.{same_leg, in_plan, Reached, NamedOnce}
use Rattle.journey.specs.Journeys.Reached.{without_boat, by_legs}
use Rattle.itinerary.specs.Order.{before, precedes, Reaching}
use Rattle.itinerary.specs.Order.Reaching.{on_foot_alone, by_legs_there}
use Rattle.itinerary.proofs.Preceding.{before_else, precedes_here, precedes_on, precedes_none}
use Rattle.laws.specs.ItineraryLaws.{JourneysOrdered, OneItinerary, ItineraryReaches}

-- ---- two legs
before_apart : (a b : Leg) → before a b ≡ true → before b a ≡ true → ⊥
before_apart a b e f = grind (arith, nat_tests)

before_same : (a b : Leg) → before a b ≡ true → same_leg b a ≡ true → ⊥
before_same a b e f = grind (arith, nat_tests)

-- ---- two lists of legs
pub precedes_apart : (xs ys : List Leg) → precedes xs ys ≡ true → precedes ys xs ≡ true → ⊥
unfolding precedes
precedes_apart [] [] e f = false≢true e
precedes_apart [] (y ∷ ys) e f = false≢true f
precedes_apart (x ∷ xs) [] e f = false≢true e
precedes_apart (x ∷ xs) (y ∷ ys) e f = by (precedes_apart xs ys) (or_cases (before x y) _ e) (or_cases (before y x) _ f)
  where
    by : (precedes xs ys ≡ true → precedes ys xs ≡ true → ⊥) →
        (before x y ≡ true) ⊎ ((same_leg x y && precedes xs ys) ≡ true) →
        (before y x ≡ true) ⊎ ((same_leg y x && precedes ys xs) ≡ true) → ⊥
    by ih (inl a) (inl b) = before_apart x y a b
    by ih (inl a) (inr b) = before_same x y a (and_parts _ _ b).0
    by ih (inr a) (inl b) = before_same y x b (and_parts _ _ a).0
    by ih (inr a) (inr b) = ih (and_parts _ _ a).1 (and_parts _ _ b).1

-- Of two lists of legs of the plan one comes first, or they are the same list.
pub precedes_total : (ls : List Leg) → NamedOnce ls → (xs ys : List Leg) →
    AllByRecursion (λ x. in_plan x ls ≡ true) xs → AllByRecursion (λ y. in_plan y ls ≡ true) ys →
    (xs ≡ ys) ⊎ ((precedes xs ys ≡ true) ⊎ (precedes ys xs ≡ true))
precedes_total ls once [] [] i j = inl refl
precedes_total ls once [] (y ∷ ys) i j = inr (inl (precedes_none y ys))
precedes_total ls once (x ∷ xs) [] i j = inr (inr (precedes_none x xs))
precedes_total ls once (x ∷ xs) (y ∷ ys) i j =
    ⊎_elim
    (λ e. inr (inl (precedes_here x y xs ys e)))
    (λ e. ⊎_elim (λ is. alike is (precedes_total ls once xs ys i.1 j.1)) (λ f. inr (inr (precedes_here y x ys xs f)))
    (before_else ls once x y i.0 j.0 e))
    (cases_Bool (before x y))
  where
    alike : x ≡ y → (xs ≡ ys) ⊎ ((precedes xs ys ≡ true) ⊎ (precedes ys xs ≡ true)) →
        ((x ∷ xs) ≡ (y ∷ ys)) ⊎ ((precedes (x ∷ xs) (y ∷ ys) ≡ true) ⊎ (precedes (y ∷ ys) (x ∷ xs) ≡ true))
    alike is (inl e) = inl (cc)
    alike is (inr (inl e)) = inr (inl (subst (λ (z : Leg). precedes (x ∷ xs) (z ∷ ys) ≡ true) is (precedes_on x xs ys e)))
    alike is (inr (inr e)) = inr (inr (subst (λ (z : Leg). precedes (z ∷ ys) (x ∷ xs) ≡ true) is (precedes_on x ys xs e)))

-- ---- journeys, from their last leg back
all_onto : (P : Leg → Type 0) (xs ys : List Leg) → AllByRecursion P xs → AllByRecursion P ys → AllByRecursion P (reverse_aux xs ys)
all_onto P [] ys a b = b
all_onto P (x ∷ xs) ys a b = all_onto P xs (x ∷ ys) a.1 (a.0, b)

pub journeys_ordered : JourneysOrdered
journeys_ordered = (
  λ legs others. precedes_apart (reverse legs) (reverse others),
  λ p legs others once i j.
      ⊎_elim
      (λ e. inl (sym (reverse-reverse legs) ∙ ap reverse e ∙ reverse-reverse others))
      inr
      (precedes_total p.legs once (reverse legs) (reverse others)
      (all_onto (λ a. in_plan a p.legs ≡ true) legs [] i tt)
      (all_onto (λ a. in_plan a p.legs ≡ true) others [] j tt)),
)

-- ---- two itineraries for one mark would each come before the other
pub one_itinerary : OneItinerary
one_itinerary p q u k legs others x y = by (x.first others y.reaching) (y.first legs x.reaching)
  where
    by : (others ≡ legs) ⊎ (precedes (reverse legs) (reverse others) ≡ true) →
        (legs ≡ others) ⊎ (precedes (reverse others) (reverse legs) ≡ true) → legs ≡ others
    by (inl e) o = sym e
    by (inr a) (inl e) = e
    by (inr a) (inr b) = absurd (precedes_apart (reverse legs) (reverse others) a b)

-- ---- it is one of the journeys that it comes first of
pub itinerary_reaches : ItineraryReaches
itinerary_reaches p q u k legs x = by x.reaching
  where
    by : {n : ℕ} {ls : List Leg} → Reaching p q u n ls → Reached p q u n
    by (on_foot_alone e) = without_boat e
    by (by_legs_there {first = first} {rest = rest} j e is) = subst (Reached p q u) is (by_legs first rest j e)

-- In a plan of any size each leg has a level: the least boats with which it is ridden.
use Rattle.std.proofs.Common.{◌≡◌, ℕ, zero, suc, ◌<◌, ◌≤◌, Bool, true, false, cond, ◌&&◌, ltb, List, map, length, get_or, refl, ◌∙◌, subst, ⊎_elim, arith}
use Rattle.std.proofs.lemmas.Bool.{cases_Bool, cases_lt, cond-true, cond-false, and_parts, and_from, lt-ltb}
use Rattle.std.proofs.lemmas.Bool.Decides.{nat_tests}
use Rattle.std.proofs.lemmas.List.{get_or-map}
use Rattle.plan.specs.declared.leg.Leg.{Leg}
use Rattle.plan.specs.Legs.{Plan, leg, no_leg, runs}
use Rattle.journey.specs.Journeys.{boats, last}
use Rattle.journey.specs.Aboard.{Aboard}
use Rattle.journey.proofs.PlanLegs.{usable_at}
use Rattle.journey.proofs.Chains.{boats_some}
use Rattle.journey.proofs.Aboard.{aboard_in}
use Rattle.journey.proofs.LastLegs.{journey_aboard, aboard_journey}
use Rattle.rounds.specs.Levels.{Levels}
use Rattle.laws.specs.Computed.{rides}
use Rattle.laws.proofs.Rides.{Ride, rides_out, journey_rides}

-- ---- one more than the least number below n that passes a test, or 0
unfoldable pub least_below : (ℕ → Bool) → ℕ → ℕ
least_below f zero = 0
least_below f (suc n) = cond (ltb 0 (least_below f n)) (least_below f n) (cond (f n) (suc n) 0)

least_none : (f : ℕ → Bool) → least_below f 0 ≡ 0
unfolding least_below
least_none f = refl

least_kept : (f : ℕ → Bool) (n : ℕ) → 0 < least_below f n → least_below f (suc n) ≡ least_below f n
unfolding least_below
least_kept f n h = cond-true (ltb 0 (least_below f n)) _ _ (lt-ltb _ _ h)

least_new : (f : ℕ → Bool) (n : ℕ) → least_below f n ≡ 0 → least_below f (suc n) ≡ cond (f n) (suc n) 0
unfolding least_below
least_new f n e = cond-false (ltb 0 (least_below f n)) _ _ none
  where
    none : ltb 0 (least_below f n) ≡ false
    none = grind (arith, nat_tests)

least_passes : (f : ℕ → Bool) (n k : ℕ) → suc k ≡ least_below f n → (f k ≡ true) × (k < n)
least_passes f zero k e = absurd (omega (arith, least_none f))
least_passes f (suc n) k e =
    ⊎_elim
    (λ some. let (passes, less) = least_passes f n k (e ∙ least_kept f n some) in (passes, omega arith))
    (λ none.
    let now = e ∙ least_new f n (omega arith) in
    ⊎_elim
    (λ passes.
    let same : suc k ≡ suc n = now ∙ cond-true (f n) (suc n) 0 passes in
    let is : n ≡ k = omega arith in
    (subst (λ z. f z ≡ true) is passes, omega arith))
    (λ fails. absurd (let zero_is = now ∙ cond-false (f n) (suc n) 0 fails in omega arith))
    (cases_Bool (f n)))
    (cases_lt 0 (least_below f n))

least_first : (f : ℕ → Bool) (n k : ℕ) → k < n → f k ≡ true → (0 < least_below f n) × (least_below f n ≤ suc k)
least_first f zero k h e = absurd (omega arith)
least_first f (suc n) k h e =
    ⊎_elim
    (λ less.
    let (some, few) = least_first f n k less e in
    let kept = least_kept f n some in
    (omega arith, omega arith))
    (λ past.
    let same : k ≡ n = omega arith in
    ⊎_elim
    (λ some. let kept = least_kept f n some in (omega arith, omega (arith, few some)))
    (λ none.
    let now = least_new f n (omega arith) ∙ cond-true (f n) (suc n) 0 (subst (λ z. f z ≡ true) same e) in
    (omega arith, omega arith))
    (cases_lt 0 (least_below f n)))
    (cases_lt k n)
  where
    few : 0 < least_below f n → least_below f n ≤ n
    few some = below (least_below f n) refl some
      where
        below : (m : ℕ) → m ≡ least_below f n → 0 < m → m ≤ n
        below zero is l = absurd (omega arith)
        below (suc j) is l = omega (arith, (least_passes f n j is).1)

-- ---- the levels of a plan, for who sets out from the pier s at the time t
module _ (p : Plan) (s t most : ℕ) where
  abbrev ridden : Leg → ℕ → Bool
  ridden b k = runs b && rides p s t k b

  abbrev level_of : Leg → ℕ
  level_of b = least_below (ridden b) most

  abbrev pub levels_of : List ℕ
  levels_of = map level_of p.legs

  level_is : (i : ℕ) → i < length p.legs → get_or levels_of i 0 ≡ level_of (leg p i)
  level_is i h = get_or-map level_of p.legs i no_leg 0 h

  -- who rides a leg with k + 1 boats is aboard of it with so many
  ride_aboard : {k : ℕ} {b : Leg} → Ride p s t k b → Aboard p s t (suc k) b
  ride_aboard {k} {b} x =
      subst (Aboard p s t (suc k)) x.is_last
      (subst (λ n. Aboard p s t n (last x.first x.rest)) x.taken (journey_aboard x.made))

  sound : (i : ℕ) → i < length p.legs → 0 < get_or levels_of i 0 →
      Aboard p s t (get_or levels_of i 0) (leg p i) × (get_or levels_of i 0 ≤ most)
  sound i h l = by (get_or levels_of i 0) (level_is i h) l
    where
      by : (m : ℕ) → m ≡ level_of (leg p i) → 0 < m → Aboard p s t m (leg p i) × (m ≤ most)
      by zero is some = absurd (omega arith)
      by (suc k) is some =
          let (e, less) = least_passes (ridden (leg p i)) most k is in
          let parts = and_parts (runs (leg p i)) _ e in
          (ride_aboard (rides_out p s t k (leg p i) (usable_at p i h parts.0) parts.1), omega arith)

  least : (i j : ℕ) → i < length p.legs → j ≤ most → Aboard p s t j (leg p i) →
      (0 < get_or levels_of i 0) × (get_or levels_of i 0 ≤ j)
  least i j h few x =
      let y = aboard_journey x in
      by (boats y.first y.rest) refl (boats_some y.first y.rest) y.few
    where
      by : (m : ℕ) → m ≡ boats (aboard_journey x).first (aboard_journey x).rest → 0 < m → m ≤ j →
          (0 < get_or levels_of i 0) × (get_or levels_of i 0 ≤ j)
      by zero is some le = absurd (omega arith)
      by (suc k) is some le =
          let y = aboard_journey x in
          let e = subst (λ (b : Leg). rides p s t k b ≡ true) y.is_last
          (journey_rides p s t k y.first y.rest y.made is) in
          let going = (aboard_in x).going in
          let low = least_first (ridden (leg p i)) most k (omega arith) (and_from (runs (leg p i)) _ going e) in
          let same = level_is i h in
          (omega (arith, low.0), omega (arith, low.1))

  pub levels_there : Levels (Aboard p s t) p most levels_of
  levels_there = record { sound = sound; least = least }

-- The legs that are ridden with so many boats are the last legs of the journeys that take so many.
use Rattle.std.proofs.Common.{◌≡◌, ℕ, zero, suc, ◌+◌, Bool, true, false, not, ◌&&◌, ◌||◌, ◌⊎◌, List, [], ◌∷◌, ◌++◌, sym, ap, ◌∙◌, subst, inl, inr, arith}
use Rattle.std.proofs.lemmas.Bool.{cases_Bool, or_cases, and_parts, and_from, or_left, or_right, false≢true, not-true}
use Rattle.plan.specs.declared.leg.Leg.{Leg}
use Rattle.plan.specs.Legs.{Plan, runs}
use Rattle.journey.specs.Steps.{stays, boards, follows, begins}
use Rattle.journey.specs.Journeys.{in_plan, joined, boats, last, Journey}
use Rattle.journey.specs.Aboard.{Usable}
use Rattle.journey.proofs.PlanLegs.{in_plan_none, in_plan_first, in_plan_later, in_plan_cases}
use Rattle.journey.proofs.Following.{follows_stay, follows_board, follows_else, stays_says}
use Rattle.journey.proofs.Chains.{Link, joined_none, joined_says, joined_snoc, last_none, last_more, last_snoc}
use Rattle.journey.proofs.Chains.{boats_none, boats_stay, boats_board, boats_snoc_stay, boats_snoc_board, journey_on}
use Rattle.laws.specs.Computed.{some_leg, aboard, rides}

-- ---- some leg of a list

some_in : (f : Leg → Bool) (a : Leg) (ls : List Leg) → in_plan a ls ≡ true → runs a ≡ true → f a ≡ true →
    some_leg ls f ≡ true
some_in f a [] i r e = absurd (false≢true (sym (in_plan_none a) ∙ i))
some_in f a (b ∷ bs) i r e = at (in_plan_cases a b bs i) (some_in f a bs)
  where
    at : (a ≡ b) ⊎ (in_plan a bs ≡ true) → (in_plan a bs ≡ true → runs a ≡ true → f a ≡ true → some_leg bs f ≡ true) →
        ((runs b && f b) || some_leg bs f) ≡ true
    at (inl h) ih =
        or_left _ (some_leg bs f) (subst (λ (c : Leg). (runs c && f c) ≡ true) h (and_from (runs a) (f a) r e))
    at (inr h) ih = or_right (runs b && f b) _ (ih h r e)

record SomeLeg (ls : List Leg) (f : Leg → Bool) : Type 0 where
  leg : Leg
  known : in_plan leg ls ≡ true
  going : runs leg ≡ true
  passes : f leg ≡ true

some_out : (f : Leg → Bool) (ls : List Leg) → some_leg ls f ≡ true → SomeLeg ls f
some_out f [] e = absurd (false≢true e)
some_out f (b ∷ bs) e = at (or_cases (runs b && f b) (some_leg bs f) e) (some_out f bs)
  where
    at : ((runs b && f b) ≡ true) ⊎ (some_leg bs f ≡ true) → (some_leg bs f ≡ true → SomeLeg bs f) → SomeLeg (b ∷ bs) f
    at (inl h) ih =
        let k = and_parts (runs b) (f b) h in
        record { leg = b; known = in_plan_first b bs; going = k.0; passes = k.1 }
    at (inr h) ih =
        let k = ih h in
        record { leg = k.leg; known = in_plan_later k.leg b bs k.known; going = k.going; passes = k.passes }

-- ---- a leg that is ridden is the last of a journey
--
-- The boats are counted exactly, not "at most": so each way in which a leg comes to be ridden is one way to make a
-- journey one leg longer. A leg boarded at the outset is a journey of its own. One that is stayed aboard for is put
-- behind a journey with as many boats, and one that is boarded from another leg, where one could not stay, behind a
-- journey with one boat less.

-- a journey with k + 1 boats whose last leg is b
pub record Ride (p : Plan) (s t k : ℕ) (b : Leg) : Type 0 where
  pub first : Leg
  pub rest : List Leg
  pub made : Journey p s t first rest
  pub is_last : last first rest ≡ b
  pub taken : boats first rest ≡ suc k

module _ (p : Plan) (s t : ℕ) where
  -- a leg is ridden afresh in a way that is known by a test
  abbrev RidesIf : ℕ → (Leg → Bool) → Type 0
  RidesIf k f = (b : Leg) → Usable p b → f b ≡ true → Ride p s t k b

  ride_one : RidesIf 0 (begins p s t)
  ride_one b u e = record {
    first = b;
    rest = [];
    made = record { begun = e; known = u.known; going = u.going; linked = joined_none p b };
    is_last = last_none b;
    taken = boats_none b;
  }

  ride_longer : (k n : ℕ) (a b : Leg) (x : Ride p s t k a) → follows p a b ≡ true → Usable p b →
      boats x.first (x.rest ++ b ∷ []) ≡ suc n → Ride p s t n b
  ride_longer k n a b x f u e =
      let step : follows p (last x.first x.rest) b ≡ true = ap (λ (c : Leg). follows p c b) x.is_last ∙ f in
      let linked = joined_snoc p x.first x.rest b x.made.linked step u.known u.going in
      record {
        first = x.first;
        rest = x.rest ++ b ∷ [];
        made = journey_on (x.rest ++ b ∷ []) x.made linked;
        is_last = last_snoc x.first x.rest b;
        taken = e;
      }

  ride_stay : (k : ℕ) (a b : Leg) → Ride p s t k a → stays a b ≡ true → Usable p b → Ride p s t k b
  ride_stay k a b x h u =
      let stay : stays (last x.first x.rest) b ≡ true = ap (λ (c : Leg). stays c b) x.is_last ∙ h in
      ride_longer k k a b x (follows_stay p a b h) u (boats_snoc_stay x.first x.rest b stay ∙ x.taken)

  ride_board : (k : ℕ) (a b : Leg) → Ride p s t k a → stays a b ≡ false → boards p a b ≡ true → Usable p b →
      Ride p s t (suc k) b
  ride_board k a b x n h u =
      let off : stays (last x.first x.rest) b ≡ false = ap (λ (c : Leg). stays c b) x.is_last ∙ n in
      ride_longer k (suc k) a b x (follows_board p a b h) u
      (boats_snoc_board x.first x.rest b off ∙ ap suc x.taken)

  -- the legs that one is aboard of with no boat more
  aboard_out : (k : ℕ) (f : Leg → Bool) → RidesIf k f → (n : ℕ) → RidesIf k (aboard p.legs f n)
  unfolding aboard
  aboard_out k f h zero b u e = h b u e
  aboard_out k f h (suc n) b u e = at (or_cases (f b) (some_leg p.legs before) e) (aboard_out k f h n)
    where
      before : Leg → Bool
      before a = stays a b && aboard p.legs f n a

      at : (f b ≡ true) ⊎ (some_leg p.legs before ≡ true) → RidesIf k (aboard p.legs f n) → Ride p s t k b
      at (inl z) ih = h b u z
      at (inr z) ih =
          let x = some_out before p.legs z in
          let y = and_parts (stays x.leg b) (aboard p.legs f n x.leg) x.passes in
          ride_stay k x.leg b (ih x.leg (record { known = x.known; going = x.going }) y.1) y.0 u

  -- boarded from a leg that is ridden with one boat less
  abbrev boarded : ℕ → Leg → Bool
  boarded k c = some_leg p.legs (λ a. not (stays a c) && (boards p a c && rides p s t k a))

  boarded_out : (k : ℕ) → RidesIf k (rides p s t k) → RidesIf (suc k) (boarded k)
  boarded_out k ih c u z =
      let x = some_out (λ a. not (stays a c) && (boards p a c && rides p s t k a)) p.legs z in
      let a = x.leg in
      let y = and_parts (not (stays a c)) (boards p a c && rides p s t k a) x.passes in
      let w = and_parts (boards p a c) (rides p s t k a) y.1 in
      let ride = ih a (record { known = x.known; going = x.going }) w.1 in
      ride_board k a c ride (not-true (stays a c) y.0) w.0 u

  pub rides_out : (k : ℕ) → RidesIf k (rides p s t k)
  unfolding rides
  rides_out zero b u e = aboard_out 0 (begins p s t) ride_one b.number b u e
  rides_out (suc k) b u e = aboard_out (suc k) (boarded k) (boarded_out k (rides_out k)) b.number b u e

  -- ---- and back: along a journey each leg is ridden
  --
  -- The first leg is ridden with one boat. From leg to leg one stays, and the next is ridden with as many boats, or one
  -- cannot stay and boards, and it is ridden with one more: as the boats of the journey are counted. A leg is reached by
  -- no more stays than its number says, since each stay takes the number up by one.

  aboard_afresh : (f : Leg → Bool) (n : ℕ) (b : Leg) → f b ≡ true → aboard p.legs f n b ≡ true
  unfolding aboard
  aboard_afresh f zero b e = e
  aboard_afresh f (suc n) b e = or_left (f b) _ e

  -- the number of the leg that is stayed aboard for is one more, so that one stay more is allowed for it
  aboard_stay : (f : Leg → Bool) (a b : Leg) → Usable p a → stays a b ≡ true →
      aboard p.legs f a.number a ≡ true → aboard p.legs f b.number b ≡ true
  unfolding aboard
  aboard_stay f a b u h e =
      let n : suc a.number ≡ b.number = omega (arith, (stays_says a b h).number) in
      let before : Leg → Bool = λ x. stays x b && aboard p.legs f a.number x in
      let passes = and_from (stays a b) (aboard p.legs f a.number a) h e in
      let z = or_right (f b) _ (some_in before a p.legs u.known u.going passes) in
      subst (λ (m : ℕ). aboard p.legs f m b ≡ true) n z

  rides_first : (a : Leg) → begins p s t a ≡ true → rides p s t 0 a ≡ true
  unfolding rides
  rides_first a e = aboard_afresh (begins p s t) a.number a e

  rides_stay : (k : ℕ) (a b : Leg) → Usable p a → stays a b ≡ true → rides p s t k a ≡ true → rides p s t k b ≡ true
  unfolding rides
  rides_stay zero a b u h e = aboard_stay (begins p s t) a b u h e
  rides_stay (suc k) a b u h e = aboard_stay (boarded k) a b u h e

  rides_board : (k : ℕ) (a b : Leg) → Usable p a → stays a b ≡ false → boards p a b ≡ true →
      rides p s t k a ≡ true → rides p s t (suc k) b ≡ true
  unfolding rides
  rides_board k a b u n h e =
      let off : not (stays a b) ≡ true = ap not n in
      let passes = and_from (not (stays a b)) _ off (and_from (boards p a b) (rides p s t k a) h e) in
      let before : Leg → Bool = λ x. not (stays x b) && (boards p x b && rides p s t k x) in
      aboard_afresh (boarded k) b.number b (some_in before a p.legs u.known u.going passes)

  -- the boats behind a leg that is ridden with k + 1 add up to those of the last leg
  rides_along : (k n : ℕ) (a : Leg) (bs : List Leg) → Usable p a → joined p a bs ≡ true → rides p s t k a ≡ true →
      suc n ≡ k + boats a bs → rides p s t n (last a bs) ≡ true
  rides_along k n a [] u j e l =
      let same : k ≡ n = omega (arith, boats_none a) in
      let r = subst (λ (m : ℕ). rides p s t m a ≡ true) same e in
      ap (rides p s t n) (last_none a) ∙ r
  rides_along k n a (b ∷ bs) u j e l =
      ap (rides p s t n) (last_more a b bs) ∙ at (cases_Bool (stays a b)) (λ m. rides_along m n b bs next link.linked)
    where
      link : Link p a b bs
      link = joined_says p a b bs j

      next : Usable p b
      next = record { known = link.known; going = link.going }

      at : (stays a b ≡ true) ⊎ (stays a b ≡ false) →
          ((m : ℕ) → rides p s t m b ≡ true → suc n ≡ m + boats b bs → rides p s t n (last b bs) ≡ true) →
          rides p s t n (last b bs) ≡ true
      at (inl h) ih = ih k (rides_stay k a b u h e) (omega (arith, boats_stay a b bs h))
      at (inr h) ih =
          ih (suc k) (rides_board k a b u h (follows_else p a b link.follow h) e) (omega (arith, boats_board a b bs h))

  pub journey_rides : (n : ℕ) (a : Leg) (bs : List Leg) → Journey p s t a bs → suc n ≡ boats a bs →
      rides p s t n (last a bs) ≡ true
  journey_rides n a bs j e =
      let u : Usable p a = record { known = j.known; going = j.going } in
      rides_along 0 n a bs u j.linked (rides_first a j.begun) (omega arith)

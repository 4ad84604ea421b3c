-- A journey that reaches a mark of the answer has no leg twice.
use Rattle.std.proofs.Common.{◌≡◌, ℕ, ◌<◌, true, false, ◌⊎◌, List, [], ◌∷◌, reverse, length, sym, refl, ap, subst, inl, inr, ⊎_elim, arith}
use mathlib.Core.List.{reverse_aux, reverse-reverse}
use Rattle.std.specs.List.{AllByRecursion}
use Rattle.std.proofs.lemmas.Bool.{cases_Bool, cases_lt, or_parts, or_from}
use Rattle.std.proofs.lemmas.Bool.Decides.{nat_tests}
use Rattle.plan.specs.declared.leg.Leg.{Leg}
use Rattle.plan.specs.Legs.{Plan, leg, same_name}
use Rattle.journey.specs.declared.question.Question.{Question}
use Rattle.journey.specs.Journeys.{NamedOnce}
use Rattle.journey.specs.Aboard.{Aboard}
use Rattle.journey.proofs.PlanLegs.{place_in_plan}
use Rattle.rounds.specs.Levels.{Levels}
use Rattle.itinerary.specs.Tracing.{level_at}
use Rattle.itinerary.proofs.Backwards.{Trail, reaching_back, no_boat_no_legs}
use Rattle.itinerary.proofs.Exact.{before_leg, prior_some, level_same, final_leg}
use Rattle.laws.specs.JourneyLaws.{named_in, named_twice}
use Rattle.laws.specs.ItineraryLaws.{MarksOnce}
use Rattle.laws.proofs.NoLegTwice.{named_twice_parts, named_twice_from}
use Rattle.laws.proofs.LevelsThere.{levels_there}
use Rattle.laws.proofs.ItineraryThere.{prior_back}

-- ---- names in lists
none_named : (a : Leg) → named_in a [] ≡ false
unfolding named_in
none_named a = refl

named_in_parts : (a b : Leg) (bs : List Leg) → named_in a (b ∷ bs) ≡ false →
    (same_name a b ≡ false) × (named_in a bs ≡ false)
unfolding named_in
named_in_parts a b bs e = or_parts (same_name a b) (named_in a bs) e

named_in_from : (a b : Leg) (bs : List Leg) → same_name a b ≡ false → named_in a bs ≡ false → named_in a (b ∷ bs) ≡ false
unfolding named_in
named_in_from a b bs e f = or_from (same_name a b) (named_in a bs) e f

none_twice : named_twice [] ≡ false
unfolding named_twice
none_twice = refl

-- names that differ, the other way round
names_apart : (a b : Leg) → same_name a b ≡ false → same_name b a ≡ false
names_apart a b e = grind (arith, nat_tests)

abbrev Unnamed : List Leg → Leg → Type 0
Unnamed ys x = named_in x ys ≡ false

apart_more : (x : Leg) (ys xs : List Leg) → named_in x xs ≡ false → AllByRecursion (Unnamed ys) xs → AllByRecursion (Unnamed (x ∷ ys)) xs
apart_more x ys [] e a = tt
apart_more x ys (z ∷ zs) e a =
    let (here, rest) = named_in_parts x z zs e in
    (named_in_from z x ys (names_apart x z here) a.0, apart_more x ys zs rest a.1)

-- the order in which legs are told makes no difference
twice_onto : (xs ys : List Leg) → named_twice xs ≡ false → named_twice ys ≡ false → AllByRecursion (Unnamed ys) xs →
    named_twice (reverse_aux xs ys) ≡ false
twice_onto [] ys e f a = f
twice_onto (x ∷ xs) ys e f a =
    let (here, rest) = named_twice_parts x xs e in
    twice_onto xs (x ∷ ys) rest (named_twice_from x ys a.0 f) (apart_more x ys xs here a.1)

apart_none : (xs : List Leg) → AllByRecursion (Unnamed []) xs
apart_none [] = tt
apart_none (x ∷ xs) = (none_named x, apart_none xs)

twice_reversed : (xs : List Leg) → named_twice xs ≡ false → named_twice (reverse xs) ≡ false
twice_reversed xs e = twice_onto xs [] e none_twice (apart_none xs)

-- ---- the legs of a journey, from its last leg back
--
-- Each has a lower level than the one behind it, or the same level and a smaller number.
module _ (p : Plan) (once : NamedOnce p.legs) (q : Question) {most : ℕ} {level : List ℕ}
    (ls : Levels (Aboard p q.from q.time) p most level) where
  abbrev Under : ℕ → ℕ → Type 0
  Under i y =
      (level_at level y < level_at level i)
      ⊎ ((level_at level y ≡ level_at level i) × ((leg p y).number < (leg p i).number))

  under_trans : (i x y : ℕ) → Under i x → Under x y → Under i y
  under_trans i x y (inl a) (inl b) = inl (omega arith)
  under_trans i x y (inl a) (inr (b, n)) = inl (omega arith)
  under_trans i x y (inr (a, n)) (inl b) = inl (omega arith)
  under_trans i x y (inr (a, n)) (inr (b, m)) = inr (omega arith, omega arith)

  -- a leg of the plan that has a level, and stands under the one at i
  record Earlier (i : ℕ) (c : Leg) : Type 0 where
    place : ℕ
    within : place < length p.legs
    is : leg p place ≡ c
    some : 0 < level_at level place
    under : Under i place

  earlier_all : (i x : ℕ) → Under i x → (xs : List Leg) → AllByRecursion (Earlier x) xs → AllByRecursion (Earlier i) xs
  earlier_all i x u [] a = tt
  earlier_all i x u (c ∷ cs) a =
      let e = a.0 in (
        record {
          place = e.place;
          within = e.within;
          is = e.is;
          some = e.some;
          under = under_trans i x e.place u e.under;
        },
        earlier_all i x u cs a.1,
      )

  -- run and number name one leg of the plan, which has one level and one number
  other_name : (i : ℕ) → i < length p.legs → 0 < level_at level i → (c : Leg) → Earlier i c →
      same_name (leg p i) c ≡ false
  other_name i h l c e = ⊎_elim (λ same. absurd (no same e.under)) (λ f. f) (cases_Bool (same_name (leg p i) c))
    where
      no : same_name (leg p i) c ≡ true → Under i e.place → ⊥
      no same u =
          let known = place_in_plan p.legs e.place e.within in
          let one = once (leg p i) (leg p e.place) (place_in_plan p.legs i h) known
          (subst (λ (z : Leg). same_name (leg p i) z ≡ true) (sym e.is) same) in
          let level_is = level_same ls i e.place h e.within l e.some one in
          ⊎_elim (λ low. omega arith) (λ low. let (lev, num) = low in less one num) u
        where
          less : leg p i ≡ leg p e.place → (leg p e.place).number < (leg p i).number → ⊥
          less is n = let same = ap (λ (z : Leg). z.number) is in omega (arith, n)

  unnamed : (i : ℕ) → i < length p.legs → 0 < level_at level i → (xs : List Leg) → AllByRecursion (Earlier i) xs →
      named_in (leg p i) xs ≡ false
  unnamed i h l [] a = none_named (leg p i)
  unnamed i h l (c ∷ cs) a = named_in_from (leg p i) c cs (other_name i h l c a.0) (unnamed i h l cs a.1)

  trail_once : (i : ℕ) → i < length p.legs → 0 < level_at level i → (xs : List Leg) →
      Trail p q.from q.time (level_at level i) (leg p i) xs → AllByRecursion (Earlier i) xs × (named_twice xs ≡ false)
  trail_once i h l [] x = (tt, none_twice)
  trail_once i h l (c ∷ zs) x =
      let w = before_leg ls i h l c zs x in
      let y = w.place in
      let some = prior_some ls i y l w.good in
      let on = subst (λ (b : Leg). Trail p q.from q.time (level_at level y) b zs) (sym w.is) w.on in
      let (all, twice) = trail_once y w.within some zs on in
      let under = prior_back p level i y w.good in
      let here : Earlier i c = record { place = y; within = w.within; is = w.is; some = some; under = under } in
      let first = subst (λ (b : Leg). named_in b zs ≡ false) w.is (unnamed y w.within some zs all) in
      ((here, earlier_all i y under zs all), named_twice_from c zs first twice)

pub marks_once : MarksOnce
marks_once p most q ms m legs once answer among r =
    ⊎_elim by_boat
    (λ none. subst (λ (l : List Leg). named_twice l ≡ false) (sym (no_boat_no_legs (omega arith) r)) none_twice)
    (cases_lt 0 m.boats)
  where
    by_boat : 0 < m.boats → named_twice legs ≡ false
    by_boat some =
        let ls = levels_there p q.from q.time most in
        let w = reaching_back some r in
        let (x, h, is, f) = final_leg ls answer among w in
        let at = subst (λ (b : Leg). Trail p q.from q.time m.boats b w.rest) (sym is) w.on in
        let on = subst (λ k. Trail p q.from q.time k (leg p x) w.rest) (sym f.boats) at in
        let (all, twice) = trail_once p once q ls x h f.some w.rest on in
        let first = subst (λ (b : Leg). named_in b w.rest ≡ false) is
        (unnamed p once q ls x h f.some w.rest all) in
        let back = twice_reversed (w.end ∷ w.rest) (named_twice_from w.end w.rest first twice) in
        subst (λ (l : List Leg). named_twice l ≡ false) (reverse-reverse legs)
        (subst (λ (l : List Leg). named_twice (reverse l) ≡ false) (sym w.told) back)

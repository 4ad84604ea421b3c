-- The greedy search from the last leg back finds the journey that comes first.
use Rattle.std.proofs.Common.{◌≡◌, ℕ, suc, ◌<◌, true, false, ◌⊎◌, List, [], ◌∷◌, reverse, length, sym, refl, ap, ◌∙◌, subst, inl, inr, ⊎_elim, arith}
use mathlib.Core.List.{reverse_aux, reverse-reverse}
use Rattle.std.proofs.lemmas.Bool.{cases_Bool}
use Rattle.std.proofs.lemmas.Bool.Decides.{nat_tests}
use Rattle.plan.specs.declared.leg.Leg.{Leg}
use Rattle.plan.specs.Legs.{Plan, leg}
use Rattle.journey.specs.declared.question.Question.{Question}
use Rattle.journey.specs.Steps.{stays, boards, begins}
use Rattle.journey.specs.Journeys.{Reached}
use Rattle.journey.specs.Journeys.Reached.{without_boat, by_legs}
use Rattle.journey.specs.Aboard.{Aboard}
use Rattle.marks.specs.declared.mark.Mark.{Mark}
use Rattle.rounds.specs.Levels.{Levels}
use Rattle.itinerary.specs.Order.{before, precedes, Reaching, Itinerary}
use Rattle.itinerary.specs.Order.Reaching.{on_foot_alone, by_legs_there}
use Rattle.itinerary.specs.Tracing.{level_at, Prior, starts, Final, Choice, Marked}
use Rattle.itinerary.proofs.Preceding.{precedes_here, precedes_on, precedes_none}
use Rattle.itinerary.proofs.Backwards.{Trail, trail_start, trail_stay, trail_board, trail_none}
use Rattle.itinerary.proofs.Backwards.{Back, reaching_back, back_reaching, no_boat_no_legs}
use Rattle.itinerary.proofs.Exact.{before_leg, prior_some, level_same, level_trail, level_usable, stay_level, final_leg}

-- of all journeys that end with a leg and have so many boats the one that comes first
pub record FirstTrail (p : Plan) (s t k : ℕ) (b : Leg) (xs : List Leg) : Type 0 where
  pub on : Trail p s t k b xs
  pub first : (ys : List Leg) → Trail p s t k b ys → (ys ≡ xs) ⊎ (precedes xs ys ≡ true)

-- two journeys that end with legs of which the one comes first, or with the same leg and then differ
decided : (b c : Leg) (xs ys : List Leg) → (c ≡ b) ⊎ (before b c ≡ true) → (c ≡ b → (ys ≡ xs) ⊎ (precedes xs ys ≡ true)) →
    ((c ∷ ys) ≡ (b ∷ xs)) ⊎ (precedes (b ∷ xs) (c ∷ ys) ≡ true)
decided b c xs ys (inr e) rest = inr (precedes_here b c xs ys e)
decided b c xs ys (inl is) rest =
    ⊎_elim
    (λ e. inl (cc))
    (λ e. inr (subst (λ (z : Leg). precedes (b ∷ xs) (z ∷ ys) ≡ true) (sym is) (precedes_on b xs ys e)))
    (rest is)

module _ {p : Plan} (q : Question) {most : ℕ} {level : List ℕ}
    (ls : Levels (Aboard p q.from q.time) p most level) where
  -- where a journey can begin with the leg and one boat, it does: what has no more legs comes first
  pub first_none : (i : ℕ) → i < length p.legs → 0 < level_at level i → starts p q level i ≡ true →
      FirstTrail p q.from q.time (level_at level i) (leg p i) []
  first_none i h l e =
      let one : 1 ≡ level_at level i = grind (arith, nat_tests) in
      let begun : begins p q.from q.time (leg p i) ≡ true = grind (arith, nat_tests) in
      record {
        on = subst (λ (k : ℕ). Trail p q.from q.time k (leg p i) []) one
            (trail_start begun (level_usable ls i h l));
        first = λ ys x. after ys;
      }
    where
      after : (ys : List Leg) → (ys ≡ []) ⊎ (precedes [] ys ≡ true)
      after [] = inl refl
      after (y ∷ ys) = inr (precedes_none y ys)

  -- a journey that does not begin with the leg at i has a leg before it, so that the search finds one
  pub prior_there : (i : ℕ) → i < length p.legs → 0 < level_at level i → starts p q level i ≡ false →
      (x : ℕ) × (x < length p.legs) × Prior p level i x
  prior_there i h l none = let (xs, x) = level_trail ls i h l in by xs x
    where
      by : (xs : List Leg) → Trail p q.from q.time (level_at level i) (leg p i) xs →
          (x : ℕ) × (x < length p.legs) × Prior p level i x
      by [] x =
          let (one, e) = trail_none x in
          absurd (grind (arith, nat_tests))
      by (c ∷ zs) x = let w = before_leg ls i h l c zs x in (w.place, w.within, w.good)

  -- The greedy choice is the first. Every other journey that ends with the leg at i has a leg before it that could have
  -- been chosen, so it comes later by that leg; or it is the same leg, and the first of the journeys that end with that
  -- leg decides.
  pub greedy_first : (i x : ℕ) (xs : List Leg) → i < length p.legs → 0 < level_at level i → starts p q level i ≡ false →
      Choice p (Prior p level i) (length p.legs) x →
      FirstTrail p q.from q.time (level_at level x) (leg p x) xs →
      FirstTrail p q.from q.time (level_at level i) (leg p i) (leg p x ∷ xs)
  greedy_first i x xs h l none c f = record {
    on = ⊎_elim by_stay by_boat (cases_Bool (stays (leg p x) (leg p i)));
    first = λ ys y. others ys y;
  }
    where
      some : 0 < level_at level x
      some = prior_some ls i x l c.good

      by_stay : stays (leg p x) (leg p i) ≡ true → Trail p q.from q.time (level_at level i) (leg p i) (leg p x ∷ xs)
      by_stay e =
          let good = c.good in
          let low = stay_level ls i x h c.within l some e in
          let same : level_at level x ≡ level_at level i = grind (arith, nat_tests) in
          trail_stay (subst (λ (k : ℕ). Trail p q.from q.time k (leg p x) xs) same f.on) e (level_usable ls i h l)

      by_boat : stays (leg p x) (leg p i) ≡ false → Trail p q.from q.time (level_at level i) (leg p i) (leg p x ∷ xs)
      by_boat e =
          let good = c.good in
          let same : suc (level_at level x) ≡ level_at level i = grind (arith, nat_tests) in
          let board : boards p (leg p x) (leg p i) ≡ true = grind (arith, nat_tests) in
          subst (λ (k : ℕ). Trail p q.from q.time k (leg p i) (leg p x ∷ xs)) same
          (trail_board f.on e board (level_usable ls i h l))

      others : (ys : List Leg) → Trail p q.from q.time (level_at level i) (leg p i) ys →
          (ys ≡ leg p x ∷ xs) ⊎ (precedes (leg p x ∷ xs) ys ≡ true)
      others [] y =
          let (one, e) = trail_none y in
          absurd (grind (arith, nat_tests))
      others (a ∷ zs) y =
          let w = before_leg ls i h l a zs y in
          let v = w.place in
          let has = prior_some ls i v l w.good in
          decided (leg p x) a xs zs
          (subst (λ (z : Leg). (z ≡ leg p x) ⊎ (before (leg p x) z ≡ true)) w.is (c.first v w.within w.good))
          (λ is.
          let same = level_same ls v x w.within c.within has some (w.is ∙ is) in
          f.first zs (subst (λ (z : Leg). Trail p q.from q.time (level_at level x) z zs) is
          (subst (λ (k : ℕ). Trail p q.from q.time k a zs) same w.on)))

module _ {p : Plan} {q : Question} {level : List ℕ} {m : Mark} (known : Marked p q level m) where
  -- some journey reaches the mark
  some_reaching : (legs : List Leg) × Reaching p q m.arrival m.boats legs
  some_reaching = told (known.answer.reached m known.among)
    where
      told : {u k : ℕ} → Reached p q u k → (legs : List Leg) × Reaching p q u k legs
      told (without_boat e) = ([], on_foot_alone e)
      told (by_legs first rest j e) = (first ∷ rest, by_legs_there j e refl)

  -- Without a boat there are no legs.
  pub itinerary_none : m.boats ≡ 0 → Itinerary p q m.arrival m.boats []
  itinerary_none none =
      let (legs, r) = some_reaching in
      record {
        reaching = subst (Reaching p q m.arrival m.boats) (no_boat_no_legs none r) r;
        first = λ others o. inl (no_boat_no_legs none o);
      }

  -- with boats there is a last leg, and the search finds one
  pub final_there : 0 < m.boats → (x : ℕ) × (x < length p.legs) × Final p q level m x
  final_there l =
      let (legs, r) = some_reaching in
      let (x, h, is, f) = final_leg known.levels known.answer known.among (reaching_back l r) in
      (x, h, f)

  -- The last leg that comes first, and of the journeys that end with it the one that comes first, are the itinerary.
  pub greedy_last : (x : ℕ) (xs : List Leg) → Choice p (Final p q level m) (length p.legs) x →
      FirstTrail p q.from q.time (level_at level x) (leg p x) xs →
      Itinerary p q m.arrival m.boats (reverse_aux xs (leg p x ∷ []))
  greedy_last x xs c f = record {
    reaching = back_reaching (subst (λ (k : ℕ). Trail p q.from q.time k (leg p x) xs) c.good.boats f.on)
        c.good.ends;
    first = λ others o. after others (reaching_back (omega (arith, c.good.some, c.good.boats)) o);
  }
    where
      after : (others : List Leg) → Back p q m.arrival m.boats others →
          (others ≡ reverse (leg p x ∷ xs)) ⊎ (precedes (reverse (reverse (leg p x ∷ xs))) (reverse others) ≡ true)
      after others w =
          let (y, h, is, g) = final_leg known.levels known.answer known.among w in
          let rank : (w.end ≡ leg p x) ⊎ (before (leg p x) w.end ≡ true) =
          subst (λ (z : Leg). (z ≡ leg p x) ⊎ (before (leg p x) z ≡ true)) is (c.first y h g) in
          let rest : w.end ≡ leg p x → (w.rest ≡ xs) ⊎ (precedes xs w.rest ≡ true) = λ e.
          f.first w.rest (subst (λ (z : Leg). Trail p q.from q.time (level_at level x) z w.rest) e
          (subst (λ (k : ℕ). Trail p q.from q.time k w.end w.rest) (sym c.good.boats) w.on)) in
          ⊎_elim
          (λ e. inl (sym (reverse-reverse others) ∙ ap reverse (w.told ∙ e)))
          (λ e. inr (subst (λ (zs : List Leg). precedes zs (reverse others) ≡ true) (sym (reverse-reverse (leg p x ∷ xs)))
          (subst (λ (zs : List Leg). precedes (leg p x ∷ xs) zs ≡ true) (sym w.told) e)))
          (decided (leg p x) w.end xs w.rest rank rest)

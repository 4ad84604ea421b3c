-- Each mark of an answer has an itinerary, in a plan of any size.
use Rattle.std.proofs.Common.{◌≡◌, ℕ, zero, suc, ◌+◌, ◌<◌, ◌≤◌, ◌&&◌, eqb, ltb, ◌⊎◌, List, [], ◌∷◌, length, Some, None, Option, sym, refl, ap, ◌∙◌, subst, inl, inr, ⊎_elim, arith}
use mathlib.Core.List.{reverse_aux}
use Rattle.std.proofs.lemmas.Bool.{cases_Bool, cases_lt, cases_eq, false≢true, or_cases, and_parts, eqb-true}
use Rattle.plan.specs.declared.leg.Leg.{Leg}
use Rattle.plan.specs.Legs.{Plan, leg, walk}
use Rattle.journey.specs.declared.question.Question.{Question}
use Rattle.journey.specs.Steps.{stays}
use Rattle.journey.specs.Journeys.{Ends, NamedOnce}
use Rattle.journey.specs.Journeys.Ends.{at_once, on_foot}
use Rattle.journey.specs.Aboard.{Aboard}
use Rattle.marks.specs.declared.mark.Mark.{Mark}
use Rattle.rounds.specs.Levels.{Levels}
use Rattle.itinerary.specs.Order.{Itinerary}
use Rattle.itinerary.specs.Tracing.{level_at, Prior, starts, Final, Choice, Chosen, Marked, first_of}
use Rattle.itinerary.proofs.Picking.{chosen_same, chosen_both}
use Rattle.itinerary.proofs.Exact.{prior_some}
use Rattle.itinerary.proofs.Greedy.{FirstTrail, first_none, prior_there, greedy_first}
use Rattle.itinerary.proofs.Greedy.{itinerary_none, final_there, greedy_last}
use Rattle.laws.specs.ItineraryLaws.{AlwaysAnItinerary}
use Rattle.laws.proofs.LevelsThere.{levels_of, levels_there}

-- ---- what can be decided of each can be decided of some below n
abbrev Decided : Type 0 → Type 0
Decided A = A ⊎ (A → ⊥)

some_below : (P : ℕ → Type 0) → ((j : ℕ) → Decided (P j)) → (n : ℕ) →
    ((j : ℕ) × (j < n) × P j) ⊎ ((j : ℕ) → j < n → P j → ⊥)
some_below P decide zero = inr (λ j h x. absurd (omega arith))
some_below P decide (suc n) =
    ⊎_elim
    (λ x. inl (n, omega arith, x))
    (λ not. ⊎_elim
    (λ w. inl (w.0, omega (arith, w.1), w.2))
    (λ none. inr (λ j h x. ⊎_elim (λ is. not (subst P is x)) (λ ne. none j (below j h ne) x) (cases_eq j n)))
    (some_below P decide n))
    (decide n)
  where
    below : (j : ℕ) → j < suc n → (j ≡ n → ⊥) → j < n
    below j h ne = ⊎_elim (λ lt. lt) (λ ge. absurd (ne (omega arith))) (cases_lt j n)

ends_decided : (p : Plan) (d s t u : ℕ) → Decided (Ends p d s t u)
ends_decided p d s t u =
    ⊎_elim (λ w. inl (subst (Ends p d s t) w.2.1.1 (on_foot w.0 w.1 w.2.0 w.2.1.0))) here
    (some_below Leads one (length p.walks))
  where
    Leads : ℕ → Type 0
    Leads j = ((walk p j).from ≡ s) × (((walk p j).to ≡ d) × (t + (walk p j).takes ≡ u))

    both : {A B : Type 0} → Decided A → Decided B → Decided (A × B)
    both (inl a) (inl b) = inl (a, b)
    both (inl a) (inr n) = inr (λ x. n x.1)
    both (inr n) b = inr (λ x. n x.0)

    one : (j : ℕ) → Decided (Leads j)
    one j = both (cases_eq _ _) (both (cases_eq _ _) (cases_eq _ _))

    here : ((j : ℕ) → j < length p.walks → Leads j → ⊥) → Decided (Ends p d s t u)
    here none =
        ⊎_elim
        (λ is. inl (subst (λ z. Ends p z s t u) is.0 (subst (Ends p s s t) is.1 at_once)))
        (λ not. inr (λ e. by not none e))
        (both (cases_eq s d) (cases_eq t u))
      where
        by : {s₁ t₁ u₁ : ℕ} → ((s₁ ≡ d) × (t₁ ≡ u₁) → ⊥) →
            ((j : ℕ) → j < length p.walks →
            ((walk p j).from ≡ s₁) × (((walk p j).to ≡ d) × (t₁ + (walk p j).takes ≡ u₁)) → ⊥) →
            Ends p d s₁ t₁ u₁ → ⊥
        by not none at_once = not (refl, refl)
        by not none (on_foot j h e f) = none j h (e, (f, refl))

-- ---- of legs that can be told from the others there is a first
module _ (p : Plan) (once : NamedOnce p.legs) (Good : ℕ → Type 0) (decide : (y : ℕ) → Decided (Good y)) where
  first_below : (n : ℕ) → n ≤ length p.legs →
      (o : Option ℕ) × Chosen p (λ y. (y < n) × Good y) (length p.legs) o
  first_below zero h = (None, λ y l g. absurd (omega (arith, g.0)))
  first_below (suc n) h =
      let (o, c) = first_below n (omega arith) in
      ⊎_elim
      (λ good. (
        first_of p o (Some n),
        chosen_both p once _ (λ y. n ≡ y) _ (λ y g. (omega (arith, g.0), g.1))
            (λ y is. subst (λ z. (z < suc n) × Good z) is (omega arith, good)) (λ y l. split y) o (Some n) c one,
      ))
      (λ not. (
        o,
        chosen_same p (length p.legs) _ _ (λ y l g. (omega (arith, g.0), g.1))
            (λ y l g. ⊎_elim (λ old. old) (λ is. absurd (not (subst Good (sym is) g.1))) (split y g)) o c,
      ))
      (decide n)
    where
      one : Choice p (λ y. n ≡ y) (length p.legs) n
      one = record { within = omega arith; good = refl; first = λ y l is. inl (ap (leg p) (sym is)) }

      split : (y : ℕ) → (y < suc n) × Good y → ((y < n) × Good y) ⊎ (n ≡ y)
      split y g = ⊎_elim (λ lt. inl (lt, g.1)) (λ ge. inr (omega (arith, g.0))) (cases_lt y n)

  -- one of them is there, so that there is a first
  first_of_all : (x : ℕ) → x < length p.legs → Good x → (y : ℕ) × Choice p Good (length p.legs) y
  first_of_all x h g =
      let (o, c) = first_below (length p.legs) (omega arith) in
      by o (chosen_same p (length p.legs) _ _ (λ y l z. z.1) (λ y l z. (l, z)) o c)
    where
      by : (o : Option ℕ) → Chosen p Good (length p.legs) o → (y : ℕ) × Choice p Good (length p.legs) y
      by None none = absurd (none x h g)
      by (Some y) c = (y, c)

-- ---- of the journeys that end with a leg, with as many boats as its level, there is a first
--
-- The search back takes a leg of a lower level, or of the same level and with a smaller number, as one stays aboard.
pub prior_back : (p : Plan) (level : List ℕ) (i x : ℕ) → Prior p level i x →
    (level_at level x < level_at level i)
    ⊎ ((level_at level x ≡ level_at level i) × ((leg p x).number < (leg p i).number))
prior_back p level i x e =
    ⊎_elim
    (λ g.
    let parts = and_parts (eqb (level_at level x) (level_at level i)) _ g in
    let name = (and_parts (eqb (leg p x).run (leg p i).run) _ parts.1).1 in
    let next = eqb-true _ _ (and_parts (eqb (leg p i).number ((leg p x).number + 1)) _ name).0 in
    inr (eqb-true _ _ parts.0, omega arith))
    (λ g.
    let parts = and_parts (eqb (level_at level i) (level_at level x + 1)) _
    (and_parts (ltb 0 (level_at level x)) _ g).1 in
    let more = eqb-true _ _ parts.0 in
    inl (omega arith))
    (or_cases (eqb (level_at level x) (level_at level i) && stays (leg p x) (leg p i)) _ e)

module _ (p : Plan) (once : NamedOnce p.legs) (q : Question) {most : ℕ} {level : List ℕ}
    (ls : Levels (Aboard p q.from q.time) p most level) where
  FirstThere : ℕ → Type 0
  FirstThere i = (xs : List Leg) × FirstTrail p q.from q.time (level_at level i) (leg p i) xs

  -- one leg back, if each leg that may come there has a first journey
  one_back : (i : ℕ) → i < length p.legs → 0 < level_at level i →
      ((x : ℕ) → x < length p.legs → 0 < level_at level x → Prior p level i x → FirstThere x) → FirstThere i
  unfolding FirstThere
  one_back i h l earlier =
      ⊎_elim
      (λ e. ([], first_none q ls i h l e))
      (λ e.
      let (y, r, g) = prior_there q ls i h l e in
      let (x, c) = first_of_all p once (Prior p level i) (λ z. prior_decided z) y r g in
      let (xs, f) = earlier x c.within (prior_some ls i x l c.good) c.good in
      (leg p x ∷ xs, greedy_first q ls i x xs h l e c f))
      (cases_Bool (starts p q level i))
    where
      prior_decided : (z : ℕ) → Decided (Prior p level i z)
      prior_decided z = ⊎_elim inl (λ f. inr (λ e. false≢true (sym f ∙ e))) (cases_Bool _)

  -- legs of a level below k, and of the level k with a number below n
  below_number : (k : ℕ) →
      ((i : ℕ) → i < length p.legs → 0 < level_at level i → level_at level i < k → FirstThere i) →
      (n i : ℕ) → i < length p.legs → 0 < level_at level i → level_at level i ≤ k → (leg p i).number < n → FirstThere i
  below_number k lower zero i h l few less = absurd (omega arith)
  below_number k lower (suc n) i h l few less = one_back i h l (λ x r some e.
      ⊎_elim (λ back. lower x r some (omega arith))
      (λ same. below_number k lower n x r some (omega (arith, same.0)) (omega (arith, same.1)))
      (prior_back p level i x e))

  below_level : (k i : ℕ) → i < length p.legs → 0 < level_at level i → level_at level i < k → FirstThere i
  below_level zero i h l less = absurd (omega arith)
  below_level (suc k) i h l less =
      below_number k (below_level k) (suc (leg p i).number) i h l (omega arith) (omega arith)

  first_there : (i : ℕ) → i < length p.legs → 0 < level_at level i →
      (xs : List Leg) × FirstTrail p q.from q.time (level_at level i) (leg p i) xs
  unfolding FirstThere
  first_there i h l = below_level (suc (level_at level i)) i h l (omega arith)

-- ---- the itinerary
marked_itinerary : (p : Plan) (q : Question) (level : List ℕ) (m : Mark) → NamedOnce p.legs →
    Marked p q level m → (legs : List Leg) × Itinerary p q m.arrival m.boats legs
marked_itinerary p q level m once known =
    ⊎_elim
    (λ some.
    let (y, h, f) = final_there known some in
    let (x, c) = first_of_all p once (Final p q level m) decide y h f in
    let (xs, first) = first_there p once q known.levels x c.within c.good.some in
    (reverse_aux xs (leg p x ∷ []), greedy_last known x xs c first))
    (λ none. ([], itinerary_none known (omega arith)))
    (cases_lt 0 m.boats)
  where
    decide : (x : ℕ) → Decided (Final p q level m x)
    decide x =
        ⊎_elim
        (λ some. ⊎_elim
        (λ is. ⊎_elim (λ e. inl (record { some = some; boats = is; ends = e })) (λ not. inr (λ f. not f.ends))
        (ends_decided p q.to (leg p x).to (leg p x).comes m.arrival))
        (λ not. inr (λ f. not f.boats))
        (cases_eq (level_at level x) m.boats))
        (λ none. inr (λ f. omega (arith, f.some)))
        (cases_lt 0 (level_at level x))

pub always_an_itinerary : AlwaysAnItinerary
always_an_itinerary p most q ms m once answer among =
    marked_itinerary p q (levels_of p q.from q.time most) m once (record {
      most = most;
      marks = ms;
      levels = levels_there p q.from q.time most;
      answer = answer;
      among = among;
    })

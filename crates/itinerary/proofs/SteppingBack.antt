-- The search back, leg by leg: what stands in the row is the end of the itinerary.
use Rattle.std.proofs.Common.{◌≡◌, ℕ, suc, ◌+◌, ◌<◌, ◌≤◌, true, List, [], ◌∷◌, map, length, get_or, drop, set, Some, None, Option, sym, ap, ◌∙◌, subst, ⊎_elim, arith, length-set, get_or-set_other, get_or-set_same}
use mathlib.Core.List.{reverse_aux}
use lib.Seq.{drop-length}
use Rattle.std.proofs.lemmas.List.{drop-set}
use Rattle.std.proofs.lemmas.Bool.{cases_Bool, cases_lt, cases_eq}
use Rattle.plan.specs.declared.leg.Leg.{Leg}
use Rattle.plan.specs.Legs.{Plan, leg}
use Rattle.journey.specs.declared.question.Question.{Question}
use Rattle.marks.specs.declared.mark.Mark.{Mark}
use Rattle.rounds.specs.Layout.{InRuns}
use Rattle.itinerary.specs.Order.{Itinerary}
use Rattle.itinerary.specs.Tracing.{level_at, Prior, starts, Final, Chosen, Marked, Stepped, legs_from, Places}
use Rattle.itinerary.proofs.Exact.{prior_some}
use Rattle.itinerary.proofs.Greedy.{FirstTrail, first_none, prior_there, greedy_first, itinerary_none, final_there}
use Rattle.itinerary.proofs.Greedy.{greedy_last}
use Rattle.itinerary.proofs.Counting.{room, room_less, room_most, prior_lower}

-- The next leg is the one at i, and behind it come the legs that were found: with the journey that comes first of those
-- that end with the leg at i they are the itinerary. There is room in the row for every leg that may still come.
pub record GoingBack (p : Plan) (q : Question) (level : List ℕ) (m : Mark) (at : ℕ) (legs : List Leg) (i : ℕ) :
    Type 0 where
  pub within : i < length p.legs
  pub some : 0 < level_at level i
  pub space : room level (length p.legs) i < at
  pub then : (xs : List Leg) → FirstTrail p q.from q.time (level_at level i) (leg p i) xs →
      Itinerary p q m.arrival m.boats (reverse_aux xs (leg p i ∷ legs))

-- Where the search back is, and what was found: either the itinerary, or a leg to go back from.
pub data Tracing (p : Plan) (q : Question) (level : List ℕ) (m : Mark) (at : ℕ) (legs : List Leg) : Option ℕ → Type 0 where
  all_found : Itinerary p q m.arrival m.boats legs → Tracing p q level m at legs None
  going_back : {i : ℕ} → GoingBack p q level m at legs i → Tracing p q level m at legs (Some i)

-- the legs that may still come
abbrev pub to_come : List ℕ → ℕ → Option ℕ → ℕ
to_come level n None = 0
to_come level n (Some i) = suc (room level n i)

module _ {p : Plan} {q : Question} {level : List ℕ} {m : Mark} (known : Marked p q level m) where
  pub tracing_last : (o : Option ℕ) → Chosen p (Final p q level m) (length p.legs) o →
      Tracing p q level m (length p.legs) [] o
  tracing_last None none =
      all_found (itinerary_none known
      (⊎_elim (λ l. absurd (let (x, h, f) = final_there known l in none x h f)) (λ e. omega arith) (cases_lt 0 m.boats)))
  tracing_last (Some x) c = going_back (record {
    within = c.within;
    some = c.good.some;
    space = room_most level (length p.legs) x c.within;
    then = λ xs f. greedy_last known x xs c f;
  })

  pub tracing_back : InRuns p.legs → (i at at₁ : ℕ) (legs : List Leg) → suc at₁ ≡ at → GoingBack p q level m at legs i →
      (o : Option ℕ) → Stepped p q level i o → Tracing p q level m at₁ (leg p i ∷ legs) o
  tracing_back runs i at at₁ legs one g None s = all_found (⊎_elim begun (λ none. begun (must none)) s)
    where
      begun : starts p q level i ≡ true → Itinerary p q m.arrival m.boats (leg p i ∷ legs)
      begun e = g.then [] (first_none q known.levels i g.within g.some e)

      must : ((y : ℕ) → y < length p.legs → Prior p level i y → ⊥) → starts p q level i ≡ true
      must none =
          ⊎_elim (λ e. e)
          (λ e. absurd (let (x, h, f) = prior_there q known.levels i g.within g.some e in none x h f))
          (cases_Bool (starts p q level i))
  tracing_back runs i at at₁ legs one g (Some x) (go_on, c) = going_back (record {
    within = c.within;
    some = prior_some known.levels i x g.some c.good;
    space =
        let less = room_less level (length p.legs) i x c.within
        (prior_lower p level i x runs g.within c.within c.good) in
        omega (arith, g.space);
    then = λ xs f. g.then (leg p x ∷ xs) (greedy_first q known.levels i x xs g.within g.some go_on c f);
  })

  -- fewer legs may still come with each leg back
  pub to_come_less : InRuns p.legs → (i at : ℕ) (legs : List Leg) → GoingBack p q level m at legs i →
      (o : Option ℕ) → Stepped p q level i o → to_come level (length p.legs) o < suc (room level (length p.legs) i)
  to_come_less runs i at legs g None s = omega arith
  to_come_less runs i at legs g (Some x) (go_on, c) =
      let less = room_less level (length p.legs) i x c.within
      (prior_lower p level i x runs g.within c.within c.good) in
      omega arith

-- ---- the row: a place more in front of those that stand in it
pub legs_put : (p : Plan) (row : List ℕ) (at at₁ i : ℕ) → suc at₁ ≡ at → at ≤ length row →
    legs_from p at₁ (set row at₁ i) ≡ leg p i ∷ legs_from p at row
legs_put p row at at₁ i one h =
    let next : at₁ + 1 ≡ at = omega arith in
    ap (map (leg p)) (drop-set row at₁ i (omega arith)) ∙ ap (λ (n : ℕ). leg p i ∷ map (leg p) (drop n row)) next

pub places_put : (n : ℕ) (row : List ℕ) (at at₁ i : ℕ) → suc at₁ ≡ at → at ≤ length row → i < n → Places n at row →
    Places n at₁ (set row at₁ i)
places_put n row at at₁ i one h less ps c l r =
    ⊎_elim
    (λ is. subst (λ (z : ℕ). get_or (set row at₁ i) z 0 < n) (sym is)
    (omega (arith, get_or-set_same row at₁ i 0 (omega arith))))
    (λ ne. omega (arith, get_or-set_other row at₁ c i 0 ne, ps c (past ne) (simp length-set at r)))
    (cases_eq c at₁)
  where
    past : (c ≡ at₁ → ⊥) → at ≤ c
    past ne = ⊎_elim (λ lt. omega arith) (λ ge. absurd (ne (omega arith))) (cases_lt at₁ c)

pub places_none : (n at : ℕ) (row : List ℕ) → at ≡ length row → Places n at row
places_none n at row e c l r = absurd (omega arith)

pub legs_none : (p : Plan) (at : ℕ) (row : List ℕ) → at ≡ length row → legs_from p at row ≡ []
legs_none p at row e = ap (λ (n : ℕ). map (leg p) (drop n row)) e ∙ ap (map (leg p)) (drop-length row)

-- ---- the loop
module _ {p : Plan} {q : Question} {level : List ℕ} {m : Mark} where
  pub going_at : {at : ℕ} {legs : List Leg} {o : Option ℕ} {i : ℕ} → Tracing p q level m at legs o → o ≡ Some i →
      GoingBack p q level m at legs i
  going_at (all_found x) is = absurd (cc)
  going_at {at} {legs} (going_back g) is =
      subst (GoingBack p q level m at legs) (cc) g

  pub itinerary_found : {at : ℕ} {legs : List Leg} {o : Option ℕ} → Tracing p q level m at legs o → o ≡ None →
      Itinerary p q m.arrival m.boats legs
  itinerary_found (all_found x) is = x
  itinerary_found (going_back g) is = absurd (cc)

  pub tracing_none : Marked p q level m → (at : ℕ) (row : List ℕ) → at ≡ length row → length row ≡ length p.legs →
      {o : Option ℕ} → Chosen p (Final p q level m) (length p.legs) o → Tracing p q level m at (legs_from p at row) o
  tracing_none known at row all long {o} c =
      subst (λ (ls : List Leg). Tracing p q level m at ls o) (sym (legs_none p at row all))
      (subst (λ (k : ℕ). Tracing p q level m k [] o) (sym (all ∙ long)) (tracing_last known o c))

  pub tracing_put : Marked p q level m → InRuns p.legs → (row : List ℕ) (at at₁ : ℕ) {i : ℕ} → suc at₁ ≡ at →
      at ≤ length row → GoingBack p q level m at (legs_from p at row) i → (o : Option ℕ) → Stepped p q level i o →
      Tracing p q level m at₁ (legs_from p at₁ (set row at₁ i)) o
  tracing_put known runs row at at₁ {i} one h g o s =
      subst (λ (ls : List Leg). Tracing p q level m at₁ ls o) (sym (legs_put p row at at₁ i one h))
      (tracing_back known runs i at at₁ (legs_from p at row) one g o s)

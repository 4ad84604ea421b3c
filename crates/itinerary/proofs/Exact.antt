-- Levels along a journey: each leg's level is exactly the boats so far.
use Rattle.std.proofs.Common.{◌≡◌, ℕ, suc, ◌<◌, ◌≤◌, true, List, ◌∷◌, length, sym, ap, subst, ⊎_elim, arith}
use Rattle.std.proofs.lemmas.Bool.{cases_lt}
use Rattle.std.proofs.lemmas.Bool.Decides.{nat_tests}
use Rattle.plan.specs.declared.leg.Leg.{Leg}
use Rattle.plan.specs.Legs.{Plan, leg}
use Rattle.journey.specs.declared.question.Question.{Question}
use Rattle.journey.specs.Steps.{stays, boards}
use Rattle.journey.specs.Journeys.{Ends}
use Rattle.journey.specs.Aboard.{Usable, Aboard}
use Rattle.journey.specs.Aboard.AboardBy.{stay, board}
use Rattle.journey.proofs.PlanLegs.{usable_place}
use Rattle.journey.proofs.LastLegs.{aboard_reached}
use Rattle.marks.specs.declared.mark.Mark.{Mark}
use Rattle.marks.specs.Marks.{Among}
use Rattle.marks.proofs.Marks.{no_worse_by, no_worse_boats, no_worse_trans}
use Rattle.rounds.specs.Levels.{Levels}
use Rattle.rounds.specs.Answers.{Answer}
use Rattle.rounds.proofs.Answers.{covered_by, falling_apart}
use Rattle.itinerary.specs.Tracing.{level_at, Prior, Final}
use Rattle.itinerary.proofs.Backwards.{Trail, trail_usable, trail_more, trail_aboard, aboard_trail, Back}

-- the leg c before the leg at i, with the legs before it: its place, and that the search may choose it
pub record BeforeLeg (p : Plan) (s t : ℕ) (level : List ℕ) (i : ℕ) (c : Leg) (zs : List Leg) : Type 0 where
  pub place : ℕ
  pub within : place < length p.legs
  pub is : leg p place ≡ c
  pub good : Prior p level i place
  pub on : Trail p s t (level_at level place) c zs

module _ {p : Plan} {s t most : ℕ} {level : List ℕ} (ls : Levels (Aboard p s t) p most level) where
  -- one leg at two places has one level
  pub level_same : (x y : ℕ) → x < length p.legs → y < length p.legs → 0 < level_at level x → 0 < level_at level y →
      leg p x ≡ leg p y → level_at level x ≡ level_at level y
  level_same x y h l a b e =
      let u = ls.sound x h a in
      let v = ls.sound y l b in
      let lower = ls.least y (level_at level x) l u.1 (subst (Aboard p s t (level_at level x)) e u.0) in
      let upper = ls.least x (level_at level y) h v.1 (subst (Aboard p s t (level_at level y)) (sym e) v.0) in
      omega (arith, lower.1, upper.1)

  -- A level is the boats of some journey: who is aboard has made a journey with no more boats, and with fewer the level
  -- would be lower.
  pub level_trail : (i : ℕ) → i < length p.legs → 0 < level_at level i →
      (xs : List Leg) × Trail p s t (level_at level i) (leg p i) xs
  level_trail i h l =
      let u = ls.sound i h l in
      let w = aboard_trail u.0 in
      let least = ls.least i w.taken h (omega (arith, w.few, u.1)) (trail_aboard w.on) in
      let same : w.taken ≡ level_at level i = omega (arith, w.few, least.1) in
      (w.legs, subst (λ (k : ℕ). Trail p s t k (leg p i) w.legs) same w.on)

  pub level_usable : (i : ℕ) → i < length p.legs → 0 < level_at level i → Usable p (leg p i)
  level_usable i h l = trail_usable (level_trail i h l).1

  -- from a leg that one stays aboard from, or boards from, the level of the next is no higher, or higher by one
  pub stay_level : (i y : ℕ) → i < length p.legs → y < length p.legs → 0 < level_at level i → 0 < level_at level y →
      stays (leg p y) (leg p i) ≡ true → level_at level i ≤ level_at level y
  stay_level i y h l a b e =
      let u = ls.sound y l b in
      (ls.least i (level_at level y) h u.1 (stay u.0 e (level_usable i h a))).1

  board_level : (i y : ℕ) → i < length p.legs → y < length p.legs → 0 < level_at level i → 0 < level_at level y →
      level_at level y < level_at level i → boards p (leg p y) (leg p i) ≡ true → level_at level i ≤ suc (level_at level y)
  board_level i y h l a b lt e =
      let u = ls.sound y l b in
      let few = (ls.sound i h a).1 in
      (ls.least i (suc (level_at level y)) h (omega arith) (board u.0 (omega arith) e (level_usable i h a))).1

  -- On a journey that ends with the leg at i and has no more boats than its level, the leg before it has exactly the
  -- boats so far as its level: with fewer, fewer would do for the leg at i.
  pub before_leg : (i : ℕ) → i < length p.legs → 0 < level_at level i → (c : Leg) (zs : List Leg) →
      Trail p s t (level_at level i) (leg p i) (c ∷ zs) → BeforeLeg p s t level i c zs
  before_leg i h a c zs x = ⊎_elim (λ w. by_stay w.0 w.1) (λ w. by_boat w.0 w.1 w.2 w.3) (trail_more x)
    where
      few : level_at level i ≤ most
      few = (ls.sound i h a).1

      by_stay : stays c (leg p i) ≡ true → Trail p s t (level_at level i) c zs → BeforeLeg p s t level i c zs
      by_stay e on =
          let w = usable_place (trail_usable on) in
          let y = w.place in
          let low = ls.least y (level_at level i) w.within few
          (subst (Aboard p s t (level_at level i)) (sym w.is) (trail_aboard on)) in
          let st = subst (λ (z : Leg). stays z (leg p i) ≡ true) (sym w.is) e in
          let high = stay_level i y h w.within a low.0 st in
          let same : level_at level i ≡ level_at level y = omega (arith, low.1) in
          record {
            place = y;
            within = w.within;
            is = w.is;
            good = grind (arith, nat_tests);
            on = subst (λ (k : ℕ). Trail p s t k c zs) same on;
          }

      by_boat : (j : ℕ) → suc j ≡ level_at level i → boards p c (leg p i) ≡ true → Trail p s t j c zs →
          BeforeLeg p s t level i c zs
      by_boat j one e on =
          let w = usable_place (trail_usable on) in
          let y = w.place in
          let low = ls.least y j w.within (omega (arith, few))
          (subst (Aboard p s t j) (sym w.is) (trail_aboard on)) in
          let bd = subst (λ (z : Leg). boards p z (leg p i) ≡ true) (sym w.is) e in
          let high = board_level i y h w.within a low.0 (omega (arith, low.1)) bd in
          let same : j ≡ level_at level y = omega (arith, low.1) in
          record {
            place = y;
            within = w.within;
            is = w.is;
            good = grind (arith, nat_tests);
            on = subst (λ (k : ℕ). Trail p s t k c zs) same on;
          }

  -- a leg that the search may choose has a level
  pub prior_some : (i x : ℕ) → 0 < level_at level i → Prior p level i x → 0 < level_at level x
  prior_some i x a e = grind (arith, nat_tests)

-- The last leg of a journey that reaches a mark of the answer has exactly the mark's boats as its level. With fewer boats
-- one would be there at the same time, and some mark of the answer would be no worse than that: no worse than the mark,
-- hence the mark itself, which has more boats.
pub final_leg : {p : Plan} {q : Question} {most : ℕ} {level : List ℕ} {ms : List Mark} {m : Mark} {legs : List Leg} →
    Levels (Aboard p q.from q.time) p most level → Answer p most q ms → Among m ms →
    (w : Back p q m.arrival m.boats legs) →
    (x : ℕ) × (x < length p.legs) × (leg p x ≡ w.end) × Final p q level m x
final_leg {p} {q} {most} {level} {ms} {m} ls a among w =
    let v = usable_place (trail_usable w.on) in
    let x = v.place in
    let is = sym v.is in
    let ends = subst (λ (l : Leg). Ends p q.to l.to l.comes m.arrival) is w.ends in
    let low = ls.least x m.boats v.within (a.few m among)
    (subst (Aboard p q.from q.time m.boats) is (trail_aboard w.on)) in
    (x, v.within, v.is, record { some = low.0; boats = exact x v.within low.0 low.1 ends; ends = ends })
  where
    exact : (x : ℕ) → x < length p.legs → 0 < level_at level x → level_at level x ≤ m.boats →
        Ends p q.to (leg p x).to (leg p x).comes m.arrival → level_at level x ≡ m.boats
    exact x h some le e = ⊎_elim (λ lt. absurd (fewer lt)) (λ ge. omega arith) (cases_lt (level_at level x) m.boats)
      where
        fewer : level_at level x < m.boats → ⊥
        fewer lt =
            let r = aboard_reached {q = q} (ls.sound x h some).0 e in
            let n : Mark = record { arrival = r.arrival; boats = r.taken } in
            let (o, i, f) = covered_by n ms (a.all n r.found (omega (arith, r.no_more, a.few m among))) in
            let g = no_worse_by n m r.no_later (omega (arith, r.no_more)) in
            let same = falling_apart ms a.falling o m i among (no_worse_trans o n m f g) in
            let boats = ap (λ (z : Mark). z.boats) same in
            omega (arith, no_worse_boats o n f, r.no_more)

-- Levels: one round more, and the round that is the last.
use Rattle.std.proofs.Common.{◌≡◌, ℕ, suc, ◌+◌, ◌<◌, ◌≤◌, true, List, length, get_or, sym, refl, ap, ◌∙◌, subst, ⊎_elim, le_refl, arith}
use Rattle.std.proofs.lemmas.Bool.{cases_lt, leb-true}
use Rattle.plan.specs.declared.leg.Leg.{Leg}
use Rattle.plan.specs.Legs.{Plan, leg, walk, runs, change_at}
use Rattle.journey.specs.Steps.{stays}
use Rattle.journey.specs.Aboard.{Usable, Boarded}
use Rattle.journey.specs.Aboard.AboardBy.{start, stay, board}
use Rattle.journey.proofs.Aboard.{aboard_in, aboard_more, aboard_some}
use Rattle.journey.proofs.PlanLegs.{usable_place}
use Rattle.journey.proofs.Following.{boards_cases, boards_change, boards_walk, boards_le, stays_says}
use Rattle.rounds.specs.Levels.{AboardFrom, Levels, Sown}
use Rattle.rounds.specs.Times.{Earliest}

-- who is at the pier s at the time t is at the pier d at the time u: that is the pier, and there it takes its minutes
-- `c`, or a walk leads there
pub data Gets (p : Plan) (c : ℕ → ℕ) (d : ℕ) : ℕ → ℕ → ℕ → Type 0 where
  at_pier : {t : ℕ} → Gets p c d d t (t + c d)
  on_walk : {s t : ℕ} (j : ℕ) → j < length p.walks → (walk p j).from ≡ s → (walk p j).to ≡ d →
      Gets p c d s t (t + (walk p j).takes)

-- with at most k boats one gets to the pier d at a time, or does without boats
pub data Comes (p : Plan) (seed : List ℕ) (Base : ℕ → Type 0) (c : ℕ → ℕ) (d k : ℕ) : ℕ → Type 0 where
  from_base : {x : ℕ} → Base x → Comes p seed Base c d k x
  from_leg : {x : ℕ} (a : Leg) → AboardFrom p seed k a → Gets p c d a.to a.comes x → Comes p seed Base c d k x

abbrev pub None : ℕ → Type 0
None x = ⊥

-- with at most k boats one can board at the pier d from a time on
abbrev pub Ready : Plan → List ℕ → ℕ → ℕ → ℕ → Type 0
Ready p seed d k x = Comes p seed None (change_at p) d k x

-- the row has for each pier the earliest such time
abbrev pub Readies : Plan → List ℕ → ℕ → List ℕ → Type 0
Readies p seed k ready = (d : ℕ) → d < length ready → Earliest (Ready p seed d k) (get_or ready d 0)

-- what has a level keeps it
abbrev pub Kept : List ℕ → List ℕ → Type 0
Kept level level₁ = (i : ℕ) → 0 < get_or level i 0 → get_or level₁ i 0 ≡ get_or level i 0

-- in round k + 1 no leg that runs and has no level could be boarded from outside, from another boat or by staying
pub record Closed (p : Plan) (seed : List ℕ) (k : ℕ) (ready level : List ℕ) : Type 0 where
  pub seeded : (i : ℕ) → i < length p.legs → runs (leg p i) ≡ true → 1 ≤ get_or seed i 0 → get_or seed i 0 ≤ suc k →
      0 < get_or level i 0
  pub boarded : (i : ℕ) → i < length p.legs → runs (leg p i) ≡ true →
      get_or ready (leg p i).from 0 ≤ (leg p i).leaves → 0 < get_or level i 0
  pub stayed : (i j : ℕ) → i < length p.legs → j < length p.legs → 0 < get_or level j 0 →
      stays (leg p j) (leg p i) ≡ true → runs (leg p i) ≡ true → 0 < get_or level i 0

-- who gets to the pier in time goes aboard
gets_boards : (p : Plan) (a b : Leg) {d x : ℕ} → Gets p (change_at p) d a.to a.comes x → d ≡ b.from →
    x ≤ b.leaves → Boarded p a b
gets_boards p a b at_pier e l = boards_change p a b (record { pier = sym e; in_time = l })
gets_boards p a b (on_walk j h f g) e l =
    boards_walk p a b (record { place = j; within = h; from = f; to = g ∙ e; in_time = l })

stays_as : {a b a₁ b₁ : Leg} → a₁ ≡ a → b₁ ≡ b → stays a b ≡ true → stays a₁ b₁ ≡ true
stays_as e f h = (λ i. stays (e i) (f i)) ∙ h

module _ {p : Plan} {seed : List ℕ} where
  -- a boat more does no harm, and there is one
  pub seeds_more : {j k : ℕ} {b : Leg} → j ≤ k → AboardFrom p seed j b → AboardFrom p seed k b
  seeds_more h x = aboard_more (λ i j b l y. record {
    place = y.place;
    within = y.within;
    is = y.is;
    some = y.some;
    enough = omega (arith, y.enough);
  }) h x

  pub seeds_some : {k : ℕ} {b : Leg} → AboardFrom p seed k b → 1 ≤ k
  seeds_some x = aboard_some (λ k b y. omega (arith, y.some, y.enough)) x

  pub comes_more : {Base : ℕ → Type 0} {c : ℕ → ℕ} {d j k x : ℕ} → j ≤ k →
      Comes p seed Base c d j x → Comes p seed Base c d k x
  comes_more h (from_base b) = from_base b
  comes_more h (from_leg a y g) = from_leg a (seeds_more h y) g

  -- nobody is aboard of a leg that leaves before the first seeded one
  pub since_late : {t k : ℕ} {b : Leg} → Sown p t seed → AboardFrom p seed k b → t ≤ b.leaves
  since_late {t} {k} {b} h (start y i) =
      subst (λ (z : Leg). t ≤ z.leaves) y.is (h.late y.place y.within y.some)
  since_late {t} {k} {b} h (stay {a = a} x e i) =
      let go : a.leaves ≤ a.comes = leb-true _ _ (aboard_in x).going in
      omega (arith, since_late h x, (stays_says a b e).in_time)
  since_late {t} {k} {b} h (board {a = a} x l e i) =
      let go : a.leaves ≤ a.comes = leb-true _ _ (aboard_in x).going in
      omega (arith, since_late h x, boards_le p a b e)

  pub ready_boards : {k d x : ℕ} (b : Leg) → Ready p seed d k x → d ≡ b.from → x ≤ b.leaves → Usable p b →
      AboardFrom p seed (suc k) b
  ready_boards b (from_base n) e l u = absurd n
  ready_boards b (from_leg a y g) e l u = board y (omega arith) (gets_boards p a b g e l) u

  -- and who goes aboard of another boat was ready in time
  pub boards_ready : {k : ℕ} (a b : Leg) → AboardFrom p seed k a → Boarded p a b →
      (x : ℕ) × Ready p seed b.from k x × (x ≤ b.leaves)
  boards_ready {k} a b y e =
      ⊎_elim
      (λ w. (
        a.comes + change_at p a.to,
        subst (λ d. Ready p seed d k (a.comes + change_at p a.to)) (sym w.pier) (from_leg a y at_pier),
        w.in_time,
      ))
      (λ w. (
        a.comes + (walk p w.place).takes,
        from_leg a y (on_walk w.place w.within w.from w.to),
        w.in_time,
      ))
      (boards_cases p a b e)

  -- A round that leaves no leg out gives a level to every leg that one can be aboard of with k + 1 boats: one goes
  -- along the legs of the journey. The first is seeded. A leg that is stayed aboard for comes behind one that has a
  -- level. And who goes aboard of another boat got off a leg with at most k boats, so was ready in time.
  module _ (k : ℕ) (ready level : List ℕ) (fits : (i : ℕ) → i < length p.legs → (leg p i).from < length ready)
      (rs : Readies p seed k ready) (cl : Closed p seed k ready level) where
    can_board : (i : ℕ) (a : Leg) → i < length p.legs → runs (leg p i) ≡ true → AboardFrom p seed k a →
        Boarded p a (leg p i) → 0 < get_or level i 0
    can_board i a h r y e =
        let (x, z, l) = boards_ready a (leg p i) y e in
        cl.boarded i h r (omega (arith, (rs (leg p i).from (fits i h)).least x z))

    pub all_found : {j t : ℕ} {b : Leg} → Sown p t seed → AboardFrom p seed j b → j ≤ suc k →
        (i : ℕ) → i < length p.legs → leg p i ≡ b → 0 < get_or level i 0
    all_found {j} {t} {b} sn (start y u) l i h e =
        let same = sn.alike i y.place h y.within (e ∙ sym y.is) in
        cl.seeded i h (ap runs e ∙ u.going) (omega (arith, y.some)) (omega (arith, y.enough))
    all_found {j} {t} {b} sn (stay {a = a} x y u) l i h e =
        let w = usable_place (aboard_in x) in
        let had = all_found sn x l w.place w.within w.is in
        cl.stayed i w.place h w.within had (stays_as w.is e y) (ap runs e ∙ u.going)
    all_found {j} {t} {b} sn (board {a = a} x y z u) l i h e =
        can_board i a h (ap runs e ∙ u.going) (seeds_more (omega arith) x) (subst (Boarded p a) (sym e) z)

    -- the levels after one round more
    pub levels_more : {t : ℕ} {before : List ℕ} → Sown p t seed → Levels (AboardFrom p seed) p k before →
        Kept before level →
        ((i : ℕ) → i < length p.legs → 0 < get_or level i 0 →
        AboardFrom p seed (get_or level i 0) (leg p i) × (get_or level i 0 ≤ suc k)) →
        Levels (AboardFrom p seed) p (suc k) level
    levels_more {t} {before} sn ls kept sound = record {
      sound = sound;
      least = λ i j h l x.
          let set = all_found sn x l i h refl in (
            set,
            ⊎_elim
                (λ lt. let o = ls.least i j h (omega arith) x in omega (arith, kept i o.0))
                (λ ge. omega (arith, (sound i h set).1))
                (cases_lt j (suc k)),
          );
    }

    -- Where the levels go up to k only, the round found nothing, and if no seed is above k + 1 no later one will:
    -- whoever is aboard of a leg, with however many boats, is so with k. Again one goes along the legs of the journey:
    -- each of them has a level, and that is at most k.
    module _ (ls : Levels (AboardFrom p seed) p k level)
        (low : (i : ℕ) → i < length p.legs → get_or seed i 0 ≤ suc k) where
      by_level : {b : Leg} (i : ℕ) → i < length p.legs → leg p i ≡ b → 0 < get_or level i 0 → AboardFrom p seed k b
      by_level i h e l = let z = ls.sound i h l in subst (AboardFrom p seed k) e (seeds_more z.1 z.0)

      pub settled : {j : ℕ} {b : Leg} → AboardFrom p seed j b → AboardFrom p seed k b
      settled {j} {b} (start y u) =
          by_level y.place y.within y.is
          (cl.seeded y.place y.within (ap runs y.is ∙ u.going) y.some (low y.place y.within))
      settled {j} {b} (stay {a = a} x y u) =
          let v = usable_place (aboard_in x) in
          let w = usable_place u in
          let before = subst (AboardFrom p seed k) (sym v.is) (settled x) in
          let had = ls.least v.place k v.within (le_refl k) before in
          by_level w.place w.within w.is
          (cl.stayed w.place v.place w.within v.within had.0 (stays_as v.is w.is y)
          (ap runs w.is ∙ u.going))
      settled {j} {b} (board {a = a} x y z u) =
          let w = usable_place u in
          by_level w.place w.within w.is
          (can_board w.place a w.within (ap runs w.is ∙ u.going) (settled x)
          (subst (Boarded p a) (sym w.is) z))

      pub levels_settled : {most : ℕ} → k ≤ most → Levels (AboardFrom p seed) p most level
      levels_settled {most} h = record {
        sound = λ i l o. let z = ls.sound i l o in (z.0, omega (arith, z.1));
        least = λ i j l o x.
            ⊎_elim
            (λ lt. ls.least i j l (omega arith) x)
            (λ ge. let z = ls.least i k l (le_refl k) (settled x) in (z.0, omega (arith, z.1)))
            (cases_lt j (suc k));
      }

-- before the first round nobody is aboard
pub levels_none : {p : Plan} {seed level : List ℕ} → ((i : ℕ) → get_or level i 0 ≡ 0) →
    Levels (AboardFrom p seed) p 0 level
levels_none blank = record {
  sound = λ i h l. absurd (omega (arith, blank i));
  least = λ i j h l x. absurd (let y = seeds_some x in omega arith);
}

-- The rounds: what holds before the first, what one more makes of it, and what the last one leaves.
use Rattle.std.proofs.Common.{◌≡◌, ℕ, suc, ◌+◌, ◌<◌, ◌≤◌, Bool, cond, ltb, List, [], ◌∷◌, length, get_or, set, replicate, sym, refl, ap, ◌∙◌, subst, ⊎_elim, le_refl, add-zero, add-one, arith}
use lib.ListN.{length-replicate}
use Rattle.std.proofs.lemmas.Bool.{cases_lt, cases_eq, cond_both, ltb-true, ltb-false}
use Rattle.std.proofs.lemmas.List.{get_or-replicate, get_or_past}
use Rattle.plan.specs.declared.leg.Leg.{Leg}
use Rattle.plan.specs.Legs.{Plan, leg, piers, change_at, time_bound}
use Rattle.journey.specs.Journeys.{Ends}
use Rattle.journey.specs.Journeys.Ends.{at_once, on_foot}
use Rattle.journey.proofs.Aboard.{aboard_in}
use Rattle.journey.proofs.PlanLegs.{usable_place}
use Rattle.marks.specs.declared.mark.Mark.{Mark}
use Rattle.marks.specs.Answers.{AnswerOf}
use Rattle.marks.specs.Fronts.{with_mark}
use Rattle.marks.proofs.Marks.{covered_up, no_worse_by}
use Rattle.marks.proofs.Answers.{answer_empty, answer_one, answer_same, answer_settled}
use Rattle.marks.proofs.Fronts.{answer_with}
use Rattle.rounds.specs.Layout.{Laid}
use Rattle.rounds.specs.Levels.{AboardFrom, Levels, Sown}
use Rattle.rounds.specs.Times.{never, Earliest, Put, Lowered}
use Rattle.rounds.specs.Boarding.{Opens, Waiting}
use Rattle.rounds.specs.Answers.{There, without, with_leg}
use Rattle.rounds.proofs.Levels.{Comes, from_base, from_leg, Readies, Closed}
use Rattle.rounds.proofs.Levels.{levels_none, levels_more, levels_settled, settled}
use Rattle.rounds.proofs.Cells.{Gone, gone_all, at_once_there, ends_gets, gets_ends}
use Rattle.rounds.proofs.Scans.{Served, scan_none, scan_more, scan_late, scan_all, comes_none}
use Rattle.rounds.proofs.Passes.{Fits, lifted_more, lifted_closed, laid_fits}
use Rattle.rounds.proofs.Thinning.{WalksIn, Scanned, Passed, next_of}
use Rattle.rounds.proofs.Thinning.{passed_here, inside, unset, opened, passed_keep, passed_more}

-- a mark is one with so many boats and a time there
pub there_comes : {p : Plan} {seed : List ℕ} {to foot : ℕ} {m : Mark} → There p seed to foot m →
    Comes p seed (WalksIn foot) at_once_there to m.boats m.arrival
there_comes (without h e) = from_base (h, e)
there_comes (with_leg a y e) = from_leg a y (ends_gets e)

abbrev pub mark : ℕ → ℕ → Mark
mark x k = record { arrival = x; boats = k }

pub comes_there : {p : Plan} {seed : List ℕ} {to foot k x : ℕ} → Comes p seed (WalksIn foot) at_once_there to k x →
    There p seed to foot (mark x k)
comes_there (from_base b) = without b.0 b.1
comes_there (from_leg a y g) = with_leg a y (gets_ends g)

-- every arrival is before `never`
pub ends_in_time : {p : Plan} {joins : List Bool} {first link : List ℕ} {d s t x : ℕ} → Laid p joins first link →
    t < time_bound → Ends p d s t x → x < never
ends_in_time laid h at_once = omega arith
ends_in_time laid h (on_foot j l e f) = omega (arith, (laid.walks j l).takes)

pub in_time : {p : Plan} {joins : List Bool} {first link seed : List ℕ} {to foot : ℕ} {m : Mark} →
    Laid p joins first link → There p seed to foot m → m.arrival < never
in_time laid (without h e) = omega arith
in_time laid (with_leg a y e) =
    let w = usable_place (aboard_in y) in
    let comes = ap (λ (z : Leg). z.comes) w.is in
    ends_in_time laid (omega (arith, (laid.legs w.place w.within).comes)) e

-- after k rounds
pub record Rounded (p : Plan) (seed : List ℕ) (foot to t k : ℕ) (level ready later arrived waits : List ℕ)
    (soon left : ℕ) (ms : List Mark) : Type 0 where
  pub levels : Levels (AboardFrom p seed) p k level
  pub readies : Readies p seed k ready
  pub same : later ≡ ready
  pub soonest : Earliest (Comes p seed (WalksIn foot) at_once_there to k) soon
  pub served : (d : ℕ) → d < length ready → Served p (change_at p) d arrived (get_or ready d 0)
  pub served_to : Served p at_once_there to arrived soon
  pub waiting : Waiting p t level waits left (length p.legs)
  pub few : left ≤ length p.legs
  pub answer : AnswerOf (There p seed to foot) k ms

-- a row of zeros holds zeros
pub blank_at : (n i : ℕ) → ◌≡◌ {A = ℕ} (get_or (replicate n 0) i 0) 0
blank_at n i =
    ⊎_elim
    (λ h. get_or-replicate n i 0 0 h)
    (λ h. get_or_past (replicate n 0) i 0 (omega (arith, length-replicate {A = ℕ} n 0)))
    (cases_lt i n)

served_none : {p : Plan} {c : ℕ → ℕ} {d x : ℕ} (n : ℕ) → Served p c d (replicate n never) x
served_none n = record {
  at = λ s h l.
      absurd (omega (arith, get_or-replicate n s never 0 (omega (arith, length-replicate {A = ℕ} n never))));
}

module _ {p : Plan} {seed : List ℕ} {foot to : ℕ} where
  foot_answer : {joins : List Bool} {first link : List ℕ} → Laid p joins first link →
      Earliest (Comes p seed (WalksIn foot) at_once_there to 0) foot →
      AnswerOf (There p seed to foot) 0 (cond (ltb foot never) (mark foot 0 ∷ []) [])
  foot_answer laid e =
      cond_both (ltb foot never) (mark foot 0 ∷ []) [] (AnswerOf (There p seed to foot) 0)
      (λ b. answer_one (mark foot 0) (without (ltb-true _ _ b) refl) (le_refl 0)
      (λ n r l. no_worse_by (mark foot 0) n (first_come n r l) (omega arith)))
      (λ b. answer_empty (λ m r l. let late = ltb-false _ _ b in omega (arith, in_time laid r, first_come m r l)))
    where
      first_come : (m : Mark) → There p seed to foot m → m.boats ≤ 0 → foot ≤ m.arrival
      first_come m r l =
          let none : m.boats ≡ 0 = omega arith in
          e.least m.arrival
          (subst (λ k. Comes p seed (WalksIn foot) at_once_there to k m.arrival) none (there_comes r))

  pub rounded_none : {joins : List Bool} {first link level ready later arrived waits : List ℕ} {t left : ℕ}
      {ms : List Mark} (n : ℕ) → Laid p joins first link → ((i : ℕ) → get_or level i 0 ≡ 0) → ready ≡ replicate n never →
      later ≡ replicate n never → arrived ≡ replicate n never → Waiting p t level waits left (length p.legs) →
      left ≤ length p.legs → ms ≡ cond (ltb foot never) (mark foot 0 ∷ []) [] →
      Rounded p seed foot to t 0 level ready later arrived waits foot left ms
  rounded_none {ready = ready} {arrived = arrived} n laid blank eq-ready eq-later eq-arrived w few eq-ms = record {
    levels = levels_none blank;
    readies = λ d h. record {
      given = λ l. absurd (let x = at_never d h in omega arith);
      least = λ y o. absurd (comes_none o);
    };
    same = eq-later ∙ sym eq-ready;
    soonest = soonest_foot;
    served = λ d h. subst (λ r. Served p (change_at p) d r (get_or ready d 0)) (sym eq-arrived) (served_none n);
    served_to = subst (λ r. Served p at_once_there to r foot) (sym eq-arrived) (served_none n);
    waiting = w;
    few = few;
    answer = subst (AnswerOf (There p seed to foot) 0) (sym eq-ms) (foot_answer laid soonest_foot);
  }
    where
      at_never : (d : ℕ) → d < length ready → get_or ready d 0 ≡ never
      at_never d h =
          ap (λ r. get_or r d 0) eq-ready
          ∙ get_or-replicate n d never 0 (omega (arith, ap length eq-ready, length-replicate {A = ℕ} n never))

      soonest_foot : Earliest (Comes p seed (WalksIn foot) at_once_there to 0) foot
      soonest_foot = record {
        given = λ h. from_base (h, refl);
        least = λ y o. let z = comes_none o in omega (arith, z.1);
      }

  pub scanned_none : {t k : ℕ} {level ready later arrived waits : List ℕ} {soon left : ℕ} {ms : List Mark} →
      Rounded p seed foot to t k level ready later arrived waits soon left ms →
      Scanned p seed foot to k level later arrived soon 0
  scanned_none {k = k} {level = level} {arrived = arrived} {soon = soon} r =
      subst (λ l. Scanned p seed foot to k level l arrived soon 0) (sym r.same) (record {
        cells = λ d h. scan_none (r.readies d h) (r.served d h);
        goal = scan_none r.soonest r.served_to;
      })

  -- one leg of the pass, for all times at once
  module _ {k : ℕ} {level later arrived : List ℕ} {soon : ℕ} (i v : ℕ) (a : Leg) (is : a ≡ leg p i)
      (ab : AboardFrom p seed (suc k) (leg p i)) (g : Scanned p seed foot to k level later arrived soon i)
      (h : a.to < length arrived) where
    pub scanned_late : get_or arrived a.to 0 ≤ a.comes → a.comes < never →
        Scanned p seed foot to k (set level i v) later arrived soon (i + 1)
    scanned_late late early = record {
      cells = λ d l. scan_late i v a is ab (g.cells d l) h late early;
      goal = scan_late i v a is ab g.goal h late early;
    }

    pub scanned_more : {later₁ later₂ : List ℕ} {soon₁ soon₂ : ℕ} →
        Lowered later a.to (a.comes + change_at p a.to) later₁ → length later₂ ≡ length later₁ →
        ((d : ℕ) → d < length later₁ → Gone p.walks a.to a.comes d (get_or later₁ d 0) (get_or later₂ d 0) 0) →
        Put a.to a.comes to soon soon₁ → Gone p.walks a.to a.comes to soon₁ soon₂ 0 →
        Scanned p seed foot to k (set level i v) later₂ (set arrived a.to a.comes) soon₂ (i + 1)
    scanned_more {later₁} {later₂} {soon₁} {soon₂} low long walks put walks_to = record {
      cells = λ d l.
          let inside : d < length later = omega (arith, long, low.long) in
          scan_more i v a is ab (g.cells d inside) h
          (gone_all (change_at p) (low.cells d inside) (walks d (omega (arith, long))));
      goal =
          let put₁ = subst (λ z. Put a.to z to soon soon₁) (sym (add-zero a.comes)) put in
          scan_more i v a is ab g.goal h (gone_all at_once_there put₁ walks_to);
    }

  -- A turn of the pass: the c-th leg of the row is the one at i.
  module _ {t k : ℕ} {level ready later₀ arrived₀ waits₀ : List ℕ} {soon₀ left : ℕ} {ms : List Mark}
      {joins : List Bool} {first link : List ℕ} (laid : Laid p joins first link) (sown : Sown p t seed)
      (long : length ready ≡ piers p)
      (r : Rounded p seed foot to t k level ready later₀ arrived₀ waits₀ soon₀ left ms)
      {level₁ later arrived waits : List ℕ} {soon still c i : ℕ} (h : c < left)
      (at : i ≡ get_or waits c 0)
      (g : Passed p seed foot to t k ready level waits₀ left level₁ later arrived waits soon still c
      (next_of waits₀ left (length p.legs) c)) where
    fits : Fits p ready
    fits = laid_fits ready laid long

    -- it does not open
    pub turn_keep : (Opens p seed (k + 1) ready level₁ i → ⊥) → left ≤ length waits →
        Passed p seed foot to t k ready level waits₀ left level₁ later arrived (set waits still i) soon (still + 1) (c + 1)
        (next_of waits₀ left (length p.legs) (c + 1))
    turn_keep shut room =
        passed_keep r.waiting sown r.levels r.readies fits h at g
        (λ o. shut (subst (λ b. Opens p seed b ready level₁ i) (sym (add-one k)) o)) room

    -- it opens
    module _ (o : Opens p seed (k + 1) ready level₁ i) (room : i < length level₁) (a : Leg) (is : a ≡ leg p i)
        (wide : length arrived ≡ piers p) where
      here : Passed p seed foot to t k ready level waits₀ left level₁ later arrived waits soon still c i
      here = passed_here r.waiting sown r.levels r.readies fits h at g

      within : i < length p.legs
      within = inside r.waiting sown r.levels r.readies fits h at g

      aboard : AboardFrom p seed (suc k) (leg p i)
      aboard =
          opened r.waiting sown r.levels r.readies fits h at g
          (subst (λ b. Opens p seed b ready level₁ i) (add-one k) o)

      leg_to : a.to < length arrived
      leg_to = omega (arith, ap (λ (b : Leg). b.to) is, (laid.legs i within).to)

      with_scan : {later₁ arrived₁ : List ℕ} {soon₁ : ℕ} →
          Scanned p seed foot to k (set level₁ i (k + 1)) later₁ arrived₁ soon₁ (i + 1) →
          Passed p seed foot to t k ready level waits₀ left (set level₁ i (k + 1)) later₁ arrived₁ waits soon₁ still (c + 1)
          (next_of waits₀ left (length p.legs) (c + 1))
      with_scan s =
          passed_more r.waiting sown r.levels r.readies fits h at g (k + 1) (add-one k) room
          (lifted_more i (k + 1) (add-one k) here.lifted room
          (unset r.waiting sown r.levels r.readies fits h at g) aboard)
          s

      -- somebody was there as early
      pub turn_late : get_or arrived a.to 0 ≤ a.comes →
          Passed p seed foot to t k ready level waits₀ left (set level₁ i (k + 1)) later arrived waits soon still (c + 1)
          (next_of waits₀ left (length p.legs) (c + 1))
      turn_late late =
          with_scan (scanned_late i (k + 1) a is aboard here.scanned leg_to late
          (omega (arith, ap (λ (b : Leg). b.comes) is, (laid.legs i within).comes)))

      -- nobody was: its change and its walks
      pub turn_more : {later₁ later₂ : List ℕ} {soon₁ soon₂ : ℕ} {at_end : ℕ} →
          Lowered later a.to (a.comes + change_at p a.to) later₁ → Put a.to a.comes to soon soon₁ →
          at_end ≡ 0 → length later₂ ≡ length later₁ →
          ((d : ℕ) → d < length later₁ →
          Gone p.walks a.to a.comes d (get_or later₁ d 0) (get_or later₂ d 0) at_end) →
          Gone p.walks a.to a.comes to soon₁ soon₂ at_end →
          Passed p seed foot to t k ready level waits₀ left (set level₁ i (k + 1)) later₂ (set arrived a.to a.comes) waits
          soon₂ still (c + 1) (next_of waits₀ left (length p.legs) (c + 1))
      turn_more {later₁} {later₂} {soon₁} {soon₂} low put done same walks walks_to =
          with_scan (scanned_more i (k + 1) a is aboard here.scanned leg_to low same
          (λ d l. subst (Gone p.walks a.to a.comes d (get_or later₁ d 0) (get_or later₂ d 0)) done (walks d l))
          put (subst (Gone p.walks a.to a.comes to soon₁ soon₂) done walks_to))

  -- the end of a round
  module _ {t k : ℕ} {level ready later arrived waits level₁ later₁ arrived₁ waits₁ : List ℕ}
      {soon left soon₁ still c n : ℕ} {ms : List Mark} {joins : List Bool} {first link : List ℕ} (laid : Laid p joins first link)
      (sown : Sown p t seed) (long : length ready ≡ piers p) (same_long : length later₁ ≡ length ready)
      (r : Rounded p seed foot to t k level ready later arrived waits soon left ms)
      (g : Passed p seed foot to t k ready level waits left level₁ later₁ arrived₁ waits₁ soon₁ still c n)
      (all : n ≡ length p.legs) (few : still ≤ left) where
    from_fits : (i : ℕ) → i < length p.legs → (leg p i).from < length ready
    from_fits i h = (laid_fits ready laid long i h).0

    no_way : Closed p seed k ready level₁
    no_way = lifted_closed all laid.in_runs g.lifted

    levels_after : Levels (AboardFrom p seed) p (suc k) level₁
    levels_after =
        levels_more k ready level₁ from_fits r.readies no_way sown r.levels g.lifted.kept g.lifted.sound

    soonest_after : Earliest (Comes p seed (WalksIn foot) at_once_there to (suc k)) soon₁
    soonest_after = scan_all all levels_after g.scanned.goal

    after : {ms₁ : List Mark} → AnswerOf (There p seed to foot) (suc k) ms₁ →
        Rounded p seed foot to t (k + 1) level₁ later₁ later₁ arrived₁ waits₁ soon₁ still ms₁
    after {ms₁} a =
        subst (λ m. Rounded p seed foot to t m level₁ later₁ later₁ arrived₁ waits₁ soon₁ still ms₁) (sym (add-one k))
        (record {
          levels = levels_after;
          readies = λ d h. scan_all all levels_after (g.scanned.cells d h);
          same = refl;
          soonest = soonest_after;
          served = λ d h. (g.scanned.cells d h).served;
          served_to = g.scanned.goal.served;
          waiting = subst (Waiting p t level₁ waits₁ still) all g.waiting;
          few = omega (arith, r.few);
          answer = a;
        })

    first_come : (m : Mark) → There p seed to foot m → m.boats ≡ suc k → soon₁ ≤ m.arrival
    first_come m y e =
        soonest_after.least m.arrival
        (subst (λ j. Comes p seed (WalksIn foot) at_once_there to j m.arrival) e (there_comes y))

    -- somebody is there: the earliest with a boat more is told if it is earlier than with fewer
    pub rounded_more : {ms₁ : List Mark} → k < 8 → soon₁ < never → ms₁ ≡ with_mark ms (mark soon₁ (k + 1)) →
        Rounded p seed foot to t (k + 1) level₁ later₁ later₁ arrived₁ waits₁ soon₁ still ms₁
    rounded_more bound h e =
        let told = e ∙ ap (λ j. with_mark ms (mark soon₁ j)) (add-one k) in
        after (answer_with (suc k) (mark soon₁ (suc k)) _ refl bound r.answer (comes_there (soonest_after.given h)) refl first_come told)

    -- nobody is there yet
    pub rounded_same : never ≤ soon₁ →
        Rounded p seed foot to t (k + 1) level₁ later₁ later₁ arrived₁ waits₁ soon₁ still ms
    rounded_same h = after (answer_same r.answer (λ m y e. absurd (omega (arith, in_time laid y, first_come m y e))))

    -- A round that boards nobody, where no seed is left for a later one, is the last: with any more boats one is aboard
    -- of no other leg.
    module _ (none : still ≡ c) (low : (i : ℕ) → i < length p.legs → get_or seed i 0 ≤ suc k) where
      levels_still : Levels (AboardFrom p seed) p k level₁
      levels_still = record {
        sound = λ j h l. let z = levels_after.sound j h l in (z.0, no_new j h z.1);
        least = λ i j h l x. levels_after.least i j h (omega arith) x;
      }
        where
          no_new : (j : ℕ) → j < length p.legs → get_or level₁ j 0 ≤ suc k → get_or level₁ j 0 ≤ k
          no_new j h l =
              ⊎_elim (λ is. absurd (g.none none j (omega arith) is)) (λ ne. omega arith)
              (cases_eq (get_or level₁ j 0) (suc k))

      pub levels_last : {most : ℕ} → k ≤ most → Levels (AboardFrom p seed) p most level₁
      levels_last h = levels_settled k ready level₁ from_fits r.readies no_way levels_still low h

      fewer : {j x : ℕ} → Comes p seed (WalksIn foot) at_once_there to j x →
          Comes p seed (WalksIn foot) at_once_there to k x
      fewer (from_base b) = from_base b
      fewer (from_leg a y o) =
          from_leg a (settled k ready level₁ from_fits r.readies no_way levels_still low y) o

      pub answer_last : {most : ℕ} → k ≤ most → AnswerOf (There p seed to foot) most ms
      answer_last h = answer_settled h r.answer (λ m y l o.
          let n = mark m.arrival k in
          covered_up n m ms (no_worse_by n m (le_refl _) (omega arith))
          (r.answer.all n (comes_there (fewer (there_comes y))) (le_refl k)))

-- the times of the next round, copied
pub rounded_copied : {p : Plan} {seed : List ℕ} {foot to t k : ℕ} {level ready ready₁ later arrived waits : List ℕ}
    {soon left : ℕ} {ms : List Mark} → ready₁ ≡ ready →
    Rounded p seed foot to t k level ready later arrived waits soon left ms →
    Rounded p seed foot to t k level ready₁ later arrived waits soon left ms
rounded_copied {p} {seed} {foot} {to} {t} {k} {level} {ready} {ready₁} {later} {arrived} {waits} {soon} {left} {ms} e r =
    subst (λ x. Rounded p seed foot to t k level x later arrived waits soon left ms) (sym e) r

pub rounded_marks : {p : Plan} {seed : List ℕ} {foot to t k : ℕ} {level ready later arrived waits : List ℕ}
    {soon left : ℕ} {ms ms₁ : List Mark} → ms₁ ≡ ms →
    Rounded p seed foot to t k level ready later arrived waits soon left ms →
    Rounded p seed foot to t k level ready later arrived waits soon left ms₁
rounded_marks {p} {seed} {foot} {to} {t} {k} {level} {ready} {later} {arrived} {waits} {soon} {left} e r =
    subst (Rounded p seed foot to t k level ready later arrived waits soon left) (sym e) r

-- A pass over the row of the legs that wait: what it makes of levels, times and the row.
use Rattle.std.proofs.Common.{◌≡◌, ℕ, suc, ◌+◌, ◌<◌, ◌≤◌, true, cond, ltb, ◌⊎◌, List, length, get_or, set, sym, refl, ap, ◌∙◌, subst, inl, inr, ⊎_elim, arith, get_or-set_other, get_or-set_same}
use Rattle.std.proofs.lemmas.Bool.{cases_lt, cases_eq, lt-ltb, le-ltb, cond-true, cond-false}
use Rattle.plan.specs.declared.leg.Leg.{Leg}
use Rattle.plan.specs.Legs.{Plan, leg, runs, change_at}
use Rattle.rounds.specs.Levels.{AboardFrom, Levels, Sown}
use Rattle.rounds.specs.Times.{never}
use Rattle.rounds.specs.Boarding.{Opens, Waiting}
use Rattle.rounds.proofs.Levels.{None, Readies, since_late}
use Rattle.rounds.proofs.Cells.{at_once_there}
use Rattle.rounds.proofs.Scans.{Scan, scan_leap}
use Rattle.rounds.proofs.Passes.{Lifted, lifted_leap, aboard_now, Fits}

-- the row, place by place
module _ {p : Plan} {t : ℕ} where
  pub waiting_none : {level waits : List ℕ} → Waiting p t level waits 0 0
  waiting_none = record {
    below = λ m h. absurd (omega arith);
    rises = λ m l h k. absurd (omega arith);
    blank = λ m h. absurd (omega arith);
    going = λ m h. absurd (omega arith);
    all = λ j h. absurd (omega arith);
  }

  -- nobody waits for these legs
  pub waiting_leap : {level waits : List ℕ} {left : ℕ} (i i₁ : ℕ) → i ≤ i₁ →
      ((j : ℕ) → i ≤ j → j < i₁ → get_or level j 0 ≡ 0 → runs (leg p j) ≡ true → t ≤ (leg p j).leaves → ⊥) →
      Waiting p t level waits left i → Waiting p t level waits left i₁
  waiting_leap i i₁ le n g = record {
    below = λ m h. omega (arith, g.below m h);
    rises = g.rises;
    blank = g.blank;
    going = g.going;
    all = λ j h z r l. ⊎_elim (λ lt. g.all j lt z r l) (λ ge. absurd (n j ge h z r l)) (cases_lt j i);
  }

  -- the leg at i waits
  pub waiting_more : {level waits : List ℕ} {left : ℕ} (i : ℕ) → left < length waits → get_or level i 0 ≡ 0 →
      runs (leg p i) ≡ true → Waiting p t level waits left i → Waiting p t level (set waits left i) (left + 1) (i + 1)
  waiting_more {level} {waits} {left} i room z r g = record {
    below = λ m h.
        ⊎_elim
        (λ lt. omega (arith, other m lt, g.below m lt))
        (λ ge. omega (arith, now m (last m h ge)))
        (cases_lt m left);
    rises = λ m l h k.
        let lm : m < left = omega arith in
        ⊎_elim
        (λ lt. omega (arith, other m lm, other l lt, g.rises m l h lt))
        (λ ge. omega (arith, other m lm, now l (last l k ge), g.below m lm))
        (cases_lt l left);
    blank = λ m h. each (λ x. get_or level x 0 ≡ 0) g.blank z m h;
    going = λ m h. each (λ x. runs (leg p x) ≡ true) g.going r m h;
    all = λ j h e o l.
        ⊎_elim
        (λ lt. let y = g.all j lt e o l in (y.0, omega (arith, y.1), other y.0 y.1 ∙ y.2))
        (λ ge. let e : i ≡ j = omega arith in (left, omega arith, now left refl ∙ e))
        (cases_lt j i);
  }
    where
      now : (m : ℕ) → m ≡ left → get_or (set waits left i) m 0 ≡ i
      now m e = ap (λ y. get_or (set waits left i) y 0) e ∙ get_or-set_same waits left i 0 room

      other : (m : ℕ) → m < left → get_or (set waits left i) m 0 ≡ get_or waits m 0
      other m h = get_or-set_other waits left m i 0 (λ e. omega arith)

      last : (m : ℕ) → m < left + 1 → left ≤ m → m ≡ left
      last m h ge = omega arith

      each : (P : ℕ → Type 0) → ((m : ℕ) → m < left → P (get_or waits m 0)) → P i → (m : ℕ) → m < left + 1 →
          P (get_or (set waits left i) m 0)
      each P old new m h =
          ⊎_elim
          (λ lt. subst P (sym (other m lt)) (old m lt))
          (λ ge. subst P (sym (now m (last m h ge))) new)
          (cases_lt m left)

  -- what stands behind them is of no account
  pub waiting_behind : {level waits : List ℕ} {left n : ℕ} (x : ℕ) → Waiting p t level waits left n →
      Waiting p t level (set waits left x) left n
  waiting_behind {level} {waits} {left} {n} x g = record {
    below = λ m h. each (λ y. y < n) m h (g.below m h);
    rises = λ m l h k. omega (arith, same m (omega arith), same l k, g.rises m l h k);
    blank = λ m h. each (λ y. get_or level y 0 ≡ 0) m h (g.blank m h);
    going = λ m h. each (λ y. runs (leg p y) ≡ true) m h (g.going m h);
    all = λ j h z r l. let (m, k, is) = g.all j h z r l in (m, k, same m k ∙ is);
  }
    where
      same : (m : ℕ) → m < left → get_or (set waits left x) m 0 ≡ get_or waits m 0
      same m h = get_or-set_other waits left m x 0 (λ e. omega arith)

      each : (P : ℕ → Type 0) (m : ℕ) → m < left → P (get_or waits m 0) → P (get_or (set waits left x) m 0)
      each P m h y = subst P (sym (same m h)) y

  -- other levels, the same below n
  pub waiting_level : {level level₁ waits : List ℕ} {left n : ℕ} →
      ((j : ℕ) → j < n → get_or level₁ j 0 ≡ get_or level j 0) → Waiting p t level waits left n →
      Waiting p t level₁ waits left n
  waiting_level f g = record {
    below = g.below;
    rises = g.rises;
    blank = λ m h. f _ (g.below m h) ∙ g.blank m h;
    going = g.going;
    all = λ j h z r l. g.all j h (sym (f j h) ∙ z) r l;
  }

-- a leg that does not run, or leaves too early
pub waiting_out : {p : Plan} {t left : ℕ} {level waits : List ℕ} (i : ℕ) (a : Leg) → a ≡ leg p i →
    (runs a ≡ true → t ≤ a.leaves → ⊥) → Waiting p t level waits left i → Waiting p t level waits left (i + 1)
waiting_out {p} {t} i a is nope g =
    waiting_leap i (i + 1) (omega arith) (λ j ge h z r l.
    let here : a ≡ leg p j = is ∙ ap (leg p) (same j ge h) in
    nope (ap runs here ∙ r) (subst (λ (b : Leg). t ≤ b.leaves) (sym here) l)) g
  where
    same : (j : ℕ) → i ≤ j → j < i + 1 → i ≡ j
    same j ge h = omega arith

pub waiting_as : {p : Plan} {t n l₁ l₂ : ℕ} {level w₁ w₂ : List ℕ} → w₂ ≡ w₁ → l₂ ≡ l₁ →
    Waiting p t level w₁ l₁ n → Waiting p t level w₂ l₂ n
waiting_as {p} {t} {n} {l₁} {l₂} {level} {w₁} {w₂} e f g =
    subst (λ x. Waiting p t level x l₂ n) (sym e) (subst (λ x. Waiting p t level w₁ x n) (sym f) g)

-- the c-th of the legs that wait, or n
abbrev pub next_of : List ℕ → ℕ → ℕ → ℕ → ℕ
next_of waits left n c = cond (ltb c left) (get_or waits c 0) n

next_here : (waits : List ℕ) (left n c : ℕ) → c < left → next_of waits left n c ≡ get_or waits c 0
next_here waits left n c h = cond-true _ _ _ (lt-ltb c left h)

pub next_end : (waits : List ℕ) (left n c : ℕ) → left ≤ c → next_of waits left n c ≡ n
next_end waits left n c h = cond-false _ _ _ (le-ltb c left h)

module _ {p : Plan} {t : ℕ} {level waits : List ℕ} {left n : ℕ} (w : Waiting p t level waits left n) where
  next_less : (c : ℕ) → next_of waits left n c ≤ n
  next_less c =
      ⊎_elim
      (λ lt. omega (arith, next_here waits left n c lt, w.below c lt))
      (λ ge. omega (arith, next_end waits left n c ge))
      (cases_lt c left)

  next_more : (c : ℕ) → c < left → get_or waits c 0 < next_of waits left n (c + 1)
  next_more c h =
      ⊎_elim
      (λ lt. omega (arith, next_here waits left n (c + 1) lt, w.rises c (c + 1) (omega arith) lt))
      (λ ge. omega (arith, next_end waits left n (c + 1) ge, w.below c h))
      (cases_lt (c + 1) left)

  -- no leg waits between two of the row
  gap : (c j : ℕ) → ((m : ℕ) → m < c → m < left → get_or waits m 0 < j) → j < next_of waits left n c →
      get_or level j 0 ≡ 0 → runs (leg p j) ≡ true → t ≤ (leg p j).leaves → ⊥
  gap c j past h z r l =
      let (m, lm, is) = w.all j (omega (arith, next_less c)) z r l in
      ⊎_elim
      (λ lt. omega (arith, past m lt lm))
      (λ ge. at_or_after m lm is ge (cases_eq c m))
      (cases_lt m c)
    where
      at_or_after : (m : ℕ) → m < left → get_or waits m 0 ≡ j → c ≤ m → (c ≡ m) ⊎ (c ≡ m → ⊥) → ⊥
      at_or_after m lm is ge (inl same) =
          omega (arith, next_here waits left n c (omega arith), ap (λ x. get_or waits x 0) same)
      at_or_after m lm is ge (inr ne) =
          let lt : c < m = ⊎_elim (λ a. a) (λ b. absurd (ne (omega arith))) (cases_lt c m) in
          omega (arith, next_here waits left n c (omega arith), w.rises c m lt lm)

  gap_first : (j : ℕ) → j < next_of waits left n 0 → get_or level j 0 ≡ 0 → runs (leg p j) ≡ true → t ≤ (leg p j).leaves → ⊥
  gap_first j = gap 0 j (λ m h. absurd (omega arith))

  gap_next : (c j : ℕ) → c < left → get_or waits c 0 + 1 ≤ j → j < next_of waits left n (c + 1) →
      get_or level j 0 ≡ 0 → runs (leg p j) ≡ true → t ≤ (leg p j).leaves → ⊥
  gap_next c j h ge = gap (c + 1) j (λ m l k. before m l (cases_eq m c))
    where
      before : (m : ℕ) → m < c + 1 → (m ≡ c) ⊎ (m ≡ c → ⊥) → get_or waits m 0 < j
      before m l (inl same) = omega (arith, ap (λ x. get_or waits x 0) same)
      before m l (inr ne) =
          let lt : m < c = ⊎_elim (λ a. a) (λ b. absurd (ne (omega arith))) (cases_lt m c) in
          omega (arith, w.rises m c lt h)

-- one is there without a boat, at `foot` if that is a time
abbrev pub WalksIn : ℕ → ℕ → Type 0
WalksIn foot x = (foot < never) × (x ≡ foot)

-- in round k + 1, when the legs below i were gone through: what they make of the times at which one can board, and of
-- the earliest arrival at the pier `to`
pub record Scanned (p : Plan) (seed : List ℕ) (foot to k : ℕ) (level later arrived : List ℕ) (soon i : ℕ) : Type 0 where
  pub cells : (d : ℕ) → d < length later → Scan p seed None (change_at p) d k level arrived (get_or later d 0) i
  pub goal : Scan p seed (WalksIn foot) at_once_there to k level arrived soon i

scanned_leap : {p : Plan} {seed : List ℕ} {foot to k : ℕ} {level later arrived : List ℕ} {soon : ℕ} (i i₁ : ℕ) →
    Scanned p seed foot to k level later arrived soon i →
    ((j : ℕ) → i ≤ j → j < i₁ → get_or level j 0 ≡ suc k → ⊥) → Scanned p seed foot to k level later arrived soon i₁
scanned_leap i i₁ g n = record { cells = λ d h. scan_leap i i₁ (g.cells d h) n; goal = scan_leap i i₁ g.goal n }

-- Round k + 1, when c of the legs that wait were gone through: those of them that did not open are the first of the
-- row, and from c on it is as it was.
pub record Passed (p : Plan) (seed : List ℕ) (foot to t k : ℕ) (ready level waits₀ : List ℕ) (left : ℕ)
    (level₁ later arrived waits : List ℕ) (soon still c n : ℕ) : Type 0 where
  pub lifted : Lifted p seed k ready level level₁ n
  pub scanned : Scanned p seed foot to k level₁ later arrived soon n
  pub waiting : Waiting p t level₁ waits still n
  pub few : still ≤ c
  pub none : still ≡ c → (j : ℕ) → j < n → get_or level₁ j 0 ≡ suc k → ⊥
  pub same : (m : ℕ) → c ≤ m → m < left → get_or waits m 0 ≡ get_or waits₀ m 0

-- a leg that was not gone through has no level of this round
not_new : {p : Plan} {seed : List ℕ} {k m : ℕ} {ready level level₁ : List ℕ} →
    Levels (AboardFrom p seed) p k level → Lifted p seed k ready level level₁ m →
    (j : ℕ) → m ≤ j → j < length p.legs → get_or level₁ j 0 ≡ suc k → ⊥
not_new ls g j ge h e = let r = g.rest j ge in let z = ls.sound j h (omega arith) in omega (arith, z.1)

-- A pass. Between two legs of the row no leg can be boarded: it has a level, does not run, or leaves too early for
-- anybody to be aboard.
module _ {p : Plan} {seed : List ℕ} {foot to t k : ℕ} {ready level waits₀ : List ℕ} {left : ℕ}
    (w : Waiting p t level waits₀ left (length p.legs)) (sown : Sown p t seed)
    (ls : Levels (AboardFrom p seed) p k level) (rs : Readies p seed k ready) (fits : Fits p ready) where
  module _ {level₁ later arrived waits : List ℕ} {soon still c : ℕ} where
    leap : (m m₁ c₁ : ℕ) → m ≤ m₁ → m₁ ≤ length p.legs → c ≤ c₁ →
        ((j : ℕ) → m ≤ j → j < m₁ → get_or level j 0 ≡ 0 → runs (leg p j) ≡ true → t ≤ (leg p j).leaves → ⊥) →
        Passed p seed foot to t k ready level waits₀ left level₁ later arrived waits soon still c m →
        Passed p seed foot to t k ready level waits₀ left level₁ later arrived waits soon still c₁ m₁
    leap m m₁ c₁ le up more nope g = record {
      lifted = lifted_leap m m₁ g.lifted le idle;
      scanned = scanned_leap m m₁ g.scanned (λ j ge h. not_new ls g.lifted j ge (omega arith));
      waiting = waiting_leap m m₁ le (λ j ge h z. nope j ge h (sym (g.lifted.rest j ge) ∙ z)) g.waiting;
      few = omega (arith, g.few);
      none = λ e j h.
          ⊎_elim
          (λ lt. g.none (omega (arith, g.few)) j lt)
          (λ ge. not_new ls g.lifted j ge (omega arith))
          (cases_lt j m);
      same = λ j h. g.same j (omega arith);
    }
      where
        idle : (j : ℕ) → m ≤ j → j < m₁ → runs (leg p j) ≡ true → Opens p seed (suc k) ready level₁ j →
            0 < get_or level₁ j 0
        idle j ge h r o =
            ⊎_elim
            (λ lt. lt)
            (λ z.
            let ab = aboard_now j g.lifted (omega arith) rs fits r o in
            let zero_now : get_or level₁ j 0 ≡ 0 = omega arith in
            absurd (nope j ge h (sym (g.lifted.rest j ge) ∙ zero_now) r (since_late sown ab)))
            (cases_lt 0 (get_or level₁ j 0))

  pub passed_none : {later arrived : List ℕ} {soon : ℕ} → Lifted p seed k ready level level 0 →
      Scanned p seed foot to k level later arrived soon 0 →
      Passed p seed foot to t k ready level waits₀ left level later arrived waits₀ soon 0 0
      (next_of waits₀ left (length p.legs) 0)
  passed_none {later} {arrived} {soon} g s =
      leap {c = 0} 0 (next_of waits₀ left (length p.legs) 0) 0 (omega arith) (next_less w 0) (omega arith)
      (λ j ge h. gap_first w j h)
      (record { lifted = g; scanned = s; waiting = waiting_none; few = omega arith; none = λ e j h. absurd (omega arith); same = λ m h l. refl })

  module _ {level₁ later arrived waits : List ℕ} {soon still c i : ℕ} (h : c < left)
      (at : i ≡ get_or waits c 0)
      (g : Passed p seed foot to t k ready level waits₀ left level₁ later arrived waits soon still c
      (next_of waits₀ left (length p.legs) c)) where
    was : i ≡ get_or waits₀ c 0
    was = at ∙ g.same c (omega arith) h

    pub passed_here :
        Passed p seed foot to t k ready level waits₀ left level₁ later arrived waits soon still c i
    passed_here =
        subst (Passed p seed foot to t k ready level waits₀ left level₁ later arrived waits soon still c)
        (next_here waits₀ left (length p.legs) c h ∙ sym was) g

    pub inside : i < length p.legs
    inside = omega (arith, was, w.below c h)

    pub goes : runs (leg p i) ≡ true
    goes = subst (λ x. runs (leg p x) ≡ true) (sym was) (w.going c h)

    pub unset : get_or level₁ i 0 ≡ 0
    unset = passed_here.lifted.rest i (omega arith) ∙ ap (λ x. get_or level x 0) was ∙ w.blank c h

    pub opened : Opens p seed (suc k) ready level₁ i → AboardFrom p seed (suc k) (leg p i)
    opened o = aboard_now i passed_here.lifted inside rs fits goes o

    -- the next leg of the row
    next : {level₂ later₁ arrived₁ waits₁ : List ℕ} {soon₁ still₁ : ℕ} →
        Passed p seed foot to t k ready level waits₀ left level₂ later₁ arrived₁ waits₁ soon₁ still₁ (c + 1) (i + 1) →
        Passed p seed foot to t k ready level waits₀ left level₂ later₁ arrived₁ waits₁ soon₁ still₁ (c + 1)
        (next_of waits₀ left (length p.legs) (c + 1))
    next y =
        leap (i + 1) (next_of waits₀ left (length p.legs) (c + 1)) (c + 1) (omega (arith, was, next_more w c h))
        (next_less w (c + 1)) (omega arith)
        (λ j ge l. gap_next w c j h (omega (arith, was)) l) y

    -- it does not open
    pub passed_keep : (Opens p seed (suc k) ready level₁ i → ⊥) → left ≤ length waits →
        Passed p seed foot to t k ready level waits₀ left level₁ later arrived (set waits still i) soon (still + 1) (c + 1)
        (next_of waits₀ left (length p.legs) (c + 1))
    passed_keep nope room = next (record {
      lifted = lifted_leap i (i + 1) passed_here.lifted (omega arith)
          (λ j a b r o. absurd (nope (subst (Opens p seed (suc k) ready level₁) (only j a b) o)));
      scanned = scanned_leap i (i + 1) passed_here.scanned
          (λ j a b. not_new ls passed_here.lifted j a (omega (arith, inside)));
      waiting = waiting_more i (omega (arith, g.few)) unset goes passed_here.waiting;
      few = omega (arith, g.few);
      none = λ e j b.
          ⊎_elim
          (λ lt. passed_here.none (omega arith) j lt)
          (λ ge. not_new ls passed_here.lifted j ge (omega (arith, inside)))
          (cases_lt j i);
      same = λ m l o. get_or-set_other waits still m i 0 (λ x. omega (arith, g.few)) ∙ g.same m (omega arith) o;
    })
      where
        only : (j : ℕ) → i ≤ j → j < i + 1 → j ≡ i
        only j a b = omega arith

    -- it opens
    pub passed_more : {later₁ arrived₁ : List ℕ} {soon₁ : ℕ} (v : ℕ) → v ≡ suc k → i < length level₁ →
        Lifted p seed k ready level (set level₁ i v) (i + 1) →
        Scanned p seed foot to k (set level₁ i v) later₁ arrived₁ soon₁ (i + 1) →
        Passed p seed foot to t k ready level waits₀ left (set level₁ i v) later₁ arrived₁ waits soon₁ still (c + 1)
        (next_of waits₀ left (length p.legs) (c + 1))
    passed_more v is room g₁ s₁ = next (record {
      lifted = g₁;
      scanned = s₁;
      waiting = waiting_leap i (i + 1) (omega arith) (λ j a b e. absurd (set_there j a b e))
          (waiting_level (λ j l. get_or-set_other level₁ i j v 0 (λ x. omega arith)) passed_here.waiting);
      few = omega (arith, g.few);
      none = λ e. absurd (omega (arith, g.few));
      same = λ m l. g.same m (omega arith);
    })
      where
        set_there : (j : ℕ) → i ≤ j → j < i + 1 → get_or (set level₁ i v) j 0 ≡ 0 → ⊥
        set_there j a b e =
            let same : j ≡ i = omega arith in
            omega (arith, ap (λ m. get_or (set level₁ i v) m 0) same, get_or-set_same level₁ i v 0 room)

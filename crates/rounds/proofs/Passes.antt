-- What the pass over the legs of a round makes of the levels.
use Rattle.std.proofs.Common.{◌≡◌, ℕ, suc, ◌+◌, ◌-◌, ◌<◌, ◌≤◌, Bool, true, false, ◌&&◌, ltb, leb, ◌≢◌, List, length, get_or, set, Decides, sym, refl, ap, ◌∙◌, subst, ⊎_elim, arith, get_or-set_other, get_or-set_same}
use Rattle.std.proofs.lemmas.Bool.{cases_lt, cases_eq, leb-true, le-leb, ltb-true, lt-ltb, and_parts, and_from, both_ways}
use Rattle.plan.specs.Legs.{Plan, leg, runs, piers}
use Rattle.journey.specs.Aboard.AboardBy.{start, stay}
use Rattle.journey.proofs.PlanLegs.{usable_at}
use Rattle.rounds.specs.Layout.{InRuns, Laid, is_joined}
use Rattle.rounds.specs.Levels.{AboardFrom, Levels}
use Rattle.rounds.specs.Times.{never}
use Rattle.rounds.specs.Boarding.{ready_for, Opens, from_outside, from_pier, from_before}
use Rattle.rounds.proofs.Laying.{join_given, join_told}
use Rattle.rounds.proofs.Levels.{Readies, Kept, Closed, seeds_more, ready_boards}

-- every leg goes from a pier that has a time, and leaves before `never`
abbrev pub Fits : Plan → List ℕ → Type 0
Fits p ready = (j : ℕ) → j < length p.legs → ((leg p j).from < length ready) × ((leg p j).leaves < never)

pub laid_fits : {p : Plan} {joins : List Bool} {first link : List ℕ} (ready : List ℕ) → Laid p joins first link →
    length ready ≡ piers p → Fits p ready
laid_fits ready laid h j l = let f = laid.legs j l in (omega (arith, f.from), omega (arith, f.leaves))

-- the test: to stay aboard, to come from outside, to be ready in time
module _ (p : Plan) (joins : List Bool) (seed ready level : List ℕ) (boats i : ℕ) (j : get_or joins i false ≡ is_joined p.legs i) where
  pub opens_stayed : (get_or joins i false && ltb 0 (get_or level (i - 1) 0)) ≡ true → Opens p seed boats ready level i
  opens_stayed e =
      let (joined, risen) = and_parts _ _ e in
      let (m, next, st, r) = join_given p.legs i (sym j ∙ joined) in
      let same : i - 1 ≡ m = omega arith in
      from_before m next (omega (arith, ltb-true _ _ risen, ap (λ z. get_or level z 0) same)) st

  pub opens_seeded : (leb 1 (get_or seed i 0) && leb (get_or seed i 0) boats) ≡ true → Opens p seed boats ready level i
  opens_seeded e = let (some, few) = and_parts _ _ e in from_outside (leb-true _ _ some) (leb-true _ _ few)

  pub opens_else : {r : Bool} → runs (leg p i) ≡ true → (get_or joins i false && ltb 0 (get_or level (i - 1) 0)) ≡ false →
      (leb 1 (get_or seed i 0) && leb (get_or seed i 0) boats) ≡ false → r ≡ ready_for ready (leg p i) →
      Decides r (Opens p seed boats ready level i)
  opens_else {r} go unstayed unseeded is = (λ e. from_pier (leb-true _ _ (sym is ∙ e)), λ o. is ∙ told o)
    where
      told : Opens p seed boats ready level i → ready_for ready (leg p i) ≡ true
      told (from_outside l h) = absurd (both_ways _ unseeded (and_from _ _ (le-leb _ _ l) (le-leb _ _ h)))
      told (from_pier h) = le-leb _ _ h
      told (from_before m e l st) =
          let same : i - 1 ≡ m = omega arith in
          absurd (both_ways _ unstayed (and_from _ _ (j ∙ join_told p.legs i m e st go)
          (lt-ltb _ _ (omega (arith, ap (λ z. get_or level z 0) same)))))

-- no leg below i that runs and has no level can be boarded in round k + 1
pub record ClosedTo (p : Plan) (seed : List ℕ) (k : ℕ) (ready level : List ℕ) (i : ℕ) : Type 0 where
  pub at : (j : ℕ) → j < i → runs (leg p j) ≡ true → Opens p seed (suc k) ready level j → 0 < get_or level j 0

-- in round k + 1, when the legs below i were gone through: what they make of the levels
pub record Lifted (p : Plan) (seed : List ℕ) (k : ℕ) (ready level level₁ : List ℕ) (i : ℕ) : Type 0 where
  pub kept : Kept level level₁
  pub sound : (j : ℕ) → j < length p.legs → 0 < get_or level₁ j 0 →
      AboardFrom p seed (get_or level₁ j 0) (leg p j) × (get_or level₁ j 0 ≤ suc k)
  pub rest : (j : ℕ) → i ≤ j → get_or level₁ j 0 ≡ get_or level j 0
  pub closed : ClosedTo p seed k ready level₁ i

module _ {p : Plan} {seed : List ℕ} {k : ℕ} {ready level : List ℕ} where
  pub lifted_none : Levels (AboardFrom p seed) p k level → Lifted p seed k ready level level 0
  lifted_none ls = record {
    kept = λ i h. refl;
    sound = λ i h l. let z = ls.sound i h l in (z.0, omega (arith, z.1));
    rest = λ j h. refl;
    closed = record { at = λ j h. absurd (omega arith) };
  }

  -- legs that have a level, or do not run, or do not open
  pub lifted_leap : {level₁ : List ℕ} (i i₁ : ℕ) → Lifted p seed k ready level level₁ i → i ≤ i₁ →
      ((j : ℕ) → i ≤ j → j < i₁ → runs (leg p j) ≡ true → Opens p seed (suc k) ready level₁ j → 0 < get_or level₁ j 0) →
      Lifted p seed k ready level level₁ i₁
  lifted_leap {level₁} i i₁ g le o = record {
    kept = g.kept;
    sound = g.sound;
    rest = λ j h. g.rest j (omega arith);
    closed = record { at = λ j h r y. ⊎_elim (λ lt. g.closed.at j lt r y) (λ ge. o j ge h r y) (cases_lt j i) };
  }

  -- whoever a leg opens for is aboard of it
  pub aboard_now : {level₁ : List ℕ} {m : ℕ} (i : ℕ) → Lifted p seed k ready level level₁ m →
      i < length p.legs → Readies p seed k ready → Fits p ready → runs (leg p i) ≡ true →
      Opens p seed (suc k) ready level₁ i → AboardFrom p seed (suc k) (leg p i)
  aboard_now i g h rs fits r (from_outside l few) =
      start (record { place = i; within = h; is = refl; some = l; enough = few }) (usable_at p i h r)
  aboard_now i g h rs fits r (from_pier early) =
      let f = fits i h in
      ready_boards (leg p i) ((rs (leg p i).from f.0).given (omega (arith, f.1))) refl early (usable_at p i h r)
  aboard_now i g h rs fits r (from_before j e l st) =
      let z = g.sound j (omega arith) l in
      stay (seeds_more z.1 z.0) st (usable_at p i h r)

  -- a leg that opens gets its level
  pub lifted_more : {level₁ : List ℕ} (i v : ℕ) → v ≡ suc k → Lifted p seed k ready level level₁ i →
      i < length level₁ → get_or level₁ i 0 ≡ 0 → AboardFrom p seed (suc k) (leg p i) →
      Lifted p seed k ready level (set level₁ i v) (i + 1)
  lifted_more {level₁} i v is g h e a = record {
    kept = λ j y.
        let z = g.kept j y in
        let ne : j ≢ i = λ s. omega (arith, z, e, ap (λ m. get_or level₁ m 0) s) in
        other j ne ∙ z;
    sound = λ j l y.
        ⊎_elim
        (λ s.
        let n = now j s in (
          subst (λ m. AboardFrom p seed m (leg p j)) (sym n)
              (subst (λ m. AboardFrom p seed (suc k) (leg p m)) (sym s) a),
          omega arith,
        ))
        (λ ne.
        let n = other j ne in
        let z = g.sound j l (omega arith) in
        (subst (λ m. AboardFrom p seed m (leg p j)) (sym n) z.0, omega (arith, z.1)))
        (cases_eq j i);
    rest = λ j l. other j (λ s. omega arith) ∙ g.rest j (omega arith);
    closed = record {
      at = λ j l r o.
          ⊎_elim
          (λ s. let n = now j s in omega arith)
          (λ ne. let z = g.closed.at j (below j l ne) r (opens_set j (below j l ne) o) in omega (arith, other j ne))
          (cases_eq j i);
    };
  }
    where
      now : (j : ℕ) → j ≡ i → get_or (set level₁ i v) j 0 ≡ suc k
      now j s = ap (λ m. get_or (set level₁ i v) m 0) s ∙ get_or-set_same level₁ i v 0 h ∙ is

      other : (j : ℕ) → j ≢ i → get_or (set level₁ i v) j 0 ≡ get_or level₁ j 0
      other j ne = get_or-set_other level₁ i j v 0 ne

      below : (j : ℕ) → j < i + 1 → j ≢ i → j < i
      below j l ne = ⊎_elim (λ lt. lt) (λ ge. absurd (ne (omega arith))) (cases_lt j i)

      opens_set : (j : ℕ) → j < i → Opens p seed (suc k) ready (set level₁ i v) j → Opens p seed (suc k) ready level₁ j
      opens_set j b (from_outside l few) = from_outside l few
      opens_set j b (from_pier l) = from_pier l
      opens_set j b (from_before m s l st) = from_before m s (omega (arith, other m (λ t. omega arith))) st

  pub lifted_closed : {level₁ : List ℕ} {i : ℕ} → i ≡ length p.legs → InRuns p.legs →
      Lifted p seed k ready level level₁ i → Closed p seed k ready level₁
  lifted_closed all rs g = record {
    seeded = λ j h r l few. g.closed.at j (omega arith) r (from_outside l few);
    boarded = λ j h r l. g.closed.at j (omega arith) r (from_pier l);
    stayed = λ j m h hm l st r. g.closed.at j (omega arith) r (from_before m (rs j m h hm st) l st);
  }

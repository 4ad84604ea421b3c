-- The earliest time at one pier over the legs of a round.
use Rattle.std.proofs.Common.{◌≡◌, ℕ, suc, ◌+◌, ◌<◌, ◌≤◌, List, length, get_or, set, sym, refl, ap, ◌∙◌, subst, inl, ⊎_elim, le_refl, arith, length-set, get_or-set_other, get_or-set_same}
use Rattle.std.proofs.lemmas.Bool.{cases_lt, cases_eq}
use Rattle.plan.specs.declared.leg.Leg.{Leg}
use Rattle.plan.specs.Legs.{Plan, leg}
use Rattle.journey.proofs.Aboard.{aboard_in}
use Rattle.journey.proofs.PlanLegs.{usable_place}
use Rattle.rounds.specs.Levels.{AboardFrom, Levels}
use Rattle.rounds.specs.Times.{never, Earliest}
use Rattle.rounds.proofs.Levels.{Gets, Comes, from_base, from_leg, seeds_more, seeds_some, comes_more}
use Rattle.rounds.proofs.Cells.{Lowers, gets_sooner}

-- The earliest arrival at each pier so far is in the earliest time at the pier d: whoever gets there from one of them
-- is no earlier.
pub record Served (p : Plan) (c : ℕ → ℕ) (d : ℕ) (arrived : List ℕ) (x : ℕ) : Type 0 where
  pub at : (s : ℕ) → s < length arrived → get_or arrived s 0 < never →
      (y : ℕ) → Gets p c d s (get_or arrived s 0) y → x ≤ y

-- In round k + 1, when the legs below i were gone through: the earliest time at the pier d with k boats, and from those
-- of them that were boarded in this round.
pub record Scan (p : Plan) (seed : List ℕ) (Base : ℕ → Type 0) (c : ℕ → ℕ) (d k : ℕ) (level arrived : List ℕ)
    (x i : ℕ) : Type 0 where
  pub given : x < never → Comes p seed Base c d (suc k) x
  pub old : (y : ℕ) → Comes p seed Base c d k y → x ≤ y
  pub new : (j : ℕ) → j < i → get_or level j 0 ≡ suc k → (y : ℕ) → Gets p c d (leg p j).to (leg p j).comes y → x ≤ y
  pub served : Served p c d arrived x

module _ {p : Plan} {seed : List ℕ} {Base : ℕ → Type 0} {c : ℕ → ℕ} {d k : ℕ} where
  pub scan_none : {level arrived : List ℕ} {x : ℕ} → Earliest (Comes p seed Base c d k) x → Served p c d arrived x →
      Scan p seed Base c d k level arrived x 0
  scan_none e s = record {
    given = λ h. comes_more (omega arith) (e.given h);
    old = e.least;
    new = λ j h. absurd (omega arith);
    served = s;
  }

  -- legs that were not boarded in this round
  pub scan_leap : {level arrived : List ℕ} {x : ℕ} (i i₁ : ℕ) → Scan p seed Base c d k level arrived x i →
      ((j : ℕ) → i ≤ j → j < i₁ → get_or level j 0 ≡ suc k → ⊥) → Scan p seed Base c d k level arrived x i₁
  scan_leap i i₁ g n = record {
    given = g.given;
    old = g.old;
    new = λ j h e. ⊎_elim (λ lt. g.new j lt e) (λ ge. absurd (n j ge h e)) (cases_lt j i);
    served = g.served;
  }

  -- The leg at i is boarded in this round. It comes to its pier earlier than all before it, and what it offers is gone
  -- through; or not, and then all that it offers was offered by an earlier one.
  module _ {level arrived : List ℕ} {x : ℕ} (i v : ℕ) (a : Leg) (is : a ≡ leg p i)
      (ab : AboardFrom p seed (suc k) (leg p i)) (g : Scan p seed Base c d k level arrived x i)
      (h : a.to < length arrived) where
    with_leg : {x₁ : ℕ} {arrived₁ : List ℕ} → Lowers (Gets p c d a.to a.comes) x x₁ →
        Served p c d arrived₁ x₁ → Scan p seed Base c d k (set level i v) arrived₁ x₁ (i + 1)
    with_leg {x₁} l s = record {
      given = λ o.
          ⊎_elim
          (λ e. subst (Comes p seed Base c d (suc k)) (sym e) (g.given (omega arith)))
          (λ o. from_leg a (subst (AboardFrom p seed (suc k)) (sym is) ab) o)
          l.given;
      old = λ y o. omega (arith, l.below, g.old y o);
      new = λ j o e y z.
          ⊎_elim
          (λ lt. omega (arith, l.below, g.new j lt (sym (get_or-set_other level i j v 0 (λ q. omega arith)) ∙ e) y z))
          (λ ge.
          let here : leg p j ≡ a = ap (leg p) (same j o ge) ∙ sym is in
          l.offers y (subst (λ (b : Leg). Gets p c d b.to b.comes y) here z))
          (cases_lt j i);
      served = s;
    }
      where
        same : (j : ℕ) → j < i + 1 → i ≤ j → j ≡ i
        same j o ge = omega arith

    pub scan_more : {x₁ : ℕ} → Lowers (Gets p c d a.to a.comes) x x₁ →
        Scan p seed Base c d k (set level i v) (set arrived a.to a.comes) x₁ (i + 1)
    scan_more {x₁} l = with_leg l (record {
      at = λ s o e y z.
          ⊎_elim
          (λ here.
          let now : get_or (set arrived a.to a.comes) s 0 ≡ a.comes =
          ap (λ m. get_or (set arrived a.to a.comes) m 0) here ∙ get_or-set_same arrived a.to a.comes 0 h in
          l.offers y (subst (λ m. Gets p c d m a.comes y) here (subst (λ m. Gets p c d s m y) now z)))
          (λ other.
          let now = get_or-set_other arrived a.to s a.comes 0 other in
          let old = g.served.at s (omega (arith, length-set arrived a.to a.comes)) (omega arith) y
          (subst (λ m. Gets p c d s m y) now z) in
          omega (arith, l.below))
          (cases_eq s a.to);
    })

    pub scan_late : get_or arrived a.to 0 ≤ a.comes → a.comes < never →
        Scan p seed Base c d k (set level i v) arrived x (i + 1)
    scan_late late early = with_leg (record {
      below = le_refl _;
      offers = λ y o.
          let z = gets_sooner (get_or arrived a.to 0) late o in
          omega (arith, z.1, g.served.at a.to h (omega arith) z.0 z.2);
      given = inl refl;
    }) g.served

  pub scan_all : {level arrived : List ℕ} {x i : ℕ} → i ≡ length p.legs → Levels (AboardFrom p seed) p (suc k) level →
      Scan p seed Base c d k level arrived x i → Earliest (Comes p seed Base c d (suc k)) x
  scan_all {level} {arrived} {x} {i} all ls g = record { given = g.given; least = late }
    where
      at_leg : (a : Leg) (y : ℕ) → AboardFrom p seed (suc k) a → Gets p c d a.to a.comes y → x ≤ y
      at_leg a y b o =
          let w = usable_place (aboard_in b) in
          let here = subst (λ (z : Leg). Gets p c d z.to z.comes y) (sym w.is) o in
          let there = subst (AboardFrom p seed (suc k)) (sym w.is) b in
          let l = ls.least w.place (suc k) w.within (le_refl _) there in
          ⊎_elim
          (λ e. g.new w.place (omega (arith, w.within)) e y here)
          (λ n.
          let few : get_or level w.place 0 ≤ k = omega (arith, l.1) in
          g.old y (from_leg (leg p w.place) (seeds_more few (ls.sound w.place w.within l.0).0) here))
          (cases_eq (get_or level w.place 0) (suc k))

      late : (y : ℕ) → Comes p seed Base c d (suc k) y → x ≤ y
      late y (from_base b) = g.old y (from_base b)
      late y (from_leg a b o) = at_leg a y b o

-- before the first round nobody has come by boat
pub comes_none : {p : Plan} {seed : List ℕ} {Base : ℕ → Type 0} {c : ℕ → ℕ} {d x : ℕ} →
    Comes p seed Base c d 0 x → Base x
comes_none (from_base b) = b
comes_none (from_leg a b o) = absurd (let l = seeds_some b in omega arith)

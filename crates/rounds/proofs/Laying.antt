-- The rows that were filled lay the plan out.
use Rattle.std.proofs.Common.{◌≡◌, ℕ, suc, ◌+◌, ◌-◌, ◌<◌, ◌≤◌, Bool, true, false, ◌&&◌, nat_lt, List, length, get_or, set, sym, ap, ◌∙◌, subst, inl, inr, ⊎_elim, arith}
use Rattle.std.proofs.lemmas.List.{same_lists, get_or_default, get_or-set_same, get_or-set_other}
use Rattle.std.proofs.lemmas.Bool.{cases_lt, cases_order, and_parts, and_from, ltb-true, lt-ltb}
use Rattle.std.proofs.lemmas.Bool.Decides.{nat_tests}
use Rattle.plan.specs.declared.leg.Leg.{Leg}
use Rattle.plan.specs.declared.walk.Walk.{Walk}
use Rattle.plan.specs.Legs.{Plan, no_leg, no_walk, leg, walk, change_at, piers, runs, time_bound}
use Rattle.plan.specs.Sound.{LegWithin, WalkWithin, Sound}
use Rattle.plan.specs.Keys.{name_of}
use Rattle.journey.specs.Steps.{stays}
use Rattle.journey.specs.Journeys.{in_plan}
use Rattle.journey.proofs.PlanLegs.{in_plan_place, place_in_plan}
use Rattle.rounds.specs.Layout.{Chains, InRuns, Laid, Alike, walk_from, is_joined}
use Rattle.rounds.specs.Opened.{place_at, LegsLaid}

-- ---- a row that was filled place by place
pub row_filled : {A : Type 0} (d : A) (xs ys : List A) → length xs ≡ length ys →
    ((i : ℕ) → i < length xs → get_or xs i d ≡ get_or ys i d) → xs ≡ ys
row_filled d xs ys long is = same_lists xs ys long (λ i e h.
    get_or_default xs i e d h ∙ is i h ∙ get_or_default ys i d e (omega arith))

pub row_more : {A : Type 0} (d : A) (xs : List A) (f : ℕ → A) (a : A) (c : ℕ) → c < length xs →
    ((m : ℕ) → m < c → get_or xs m d ≡ f m) → a ≡ f c → (m : ℕ) → m < c + 1 → get_or (set xs c a) m d ≡ f m
row_more d xs f a c room before is m h =
    ⊎_elim
    (λ lt. get_or-set_other xs c m a d (λ s. omega arith) ∙ before m lt)
    (λ ge.
    let same : c ≡ m = omega arith in
    subst (λ n. get_or (set xs c a) n d ≡ f n) same (get_or-set_same xs c a d room ∙ is))
    (cases_lt m c)

-- ---- the walks: each goes from a pier that has a chain
pub walks_from : {p : Plan} {ws : List Walk} {n : ℕ} → Sound p → ws ≡ p.walks → n ≡ piers p →
    (j : ℕ) → j < length ws → (get_or ws j no_walk).from < n
walks_from {p} {ws} {n} s is many j h =
    let w = s.walks j (omega (arith, ap length is)) in
    let e = ap (λ (zs : List Walk). (get_or zs j no_walk).from) is in
    omega (arith, w.from)

-- ---- a leg behind them changes no join
pub joins_kept : (legs : List Leg) (joins : List Bool) (a : Leg) (c : ℕ) → ((m : ℕ) → m < c → get_or joins m false ≡ is_joined legs m) →
    (m : ℕ) → m < c → get_or joins m false ≡ is_joined (set legs c a) m
joins_kept legs joins a c before m h =
    before m h
    ∙ sym (ap (λ (x : Leg). nat_lt 0 m && (runs (get_or (set legs c a) m no_leg) && stays x (get_or (set legs c a) m no_leg))) (other (m - 1) (omega arith))
    ∙ ap (λ (y : Leg). nat_lt 0 m && (runs y && stays (get_or legs (m - 1) no_leg) y)) (other m h))
  where
    other : (i : ℕ) → i < c → get_or (set legs c a) i no_leg ≡ get_or legs i no_leg
    other i l = get_or-set_other legs c i a no_leg (λ s. omega arith)

-- whoever may stay aboard for a leg does so from the leg right before it
pub join_given : (legs : List Leg) (i : ℕ) → is_joined legs i ≡ true →
    (j : ℕ) × (suc j ≡ i) × (stays (get_or legs j no_leg) (get_or legs i no_leg) ≡ true) × (runs (get_or legs i no_leg) ≡ true)
join_given legs i e =
    let (some, rest) = and_parts _ _ e in
    let (going, st) = and_parts _ _ rest in
    let after : 0 < i = ltb-true 0 i some in
    (i - 1, omega arith, st, going)

pub join_told : (legs : List Leg) (i j : ℕ) → suc j ≡ i →
    stays (get_or legs j no_leg) (get_or legs i no_leg) ≡ true → runs (get_or legs i no_leg) ≡ true → is_joined legs i ≡ true
join_told legs i j next st going =
    let same : j ≡ i - 1 = omega arith in
    and_from _ _ (lt-ltb _ _ (omega arith))
    (and_from _ _ going (subst (λ m. stays (get_or legs m no_leg) (get_or legs i no_leg) ≡ true) same st))

-- ---- the legs
--
-- one stays aboard for the leg of the next name
next_name : (a b : Leg) → stays a b ≡ true → name_of b ≡ suc (name_of a)
next_name a b e =
    let r : a.run ≡ b.run = grind (arith, nat_tests) in
    let n : b.number ≡ a.number + 1 = grind (arith, nat_tests) in
    omega arith

module _ (p : Plan) (keys : List ℕ) (legs : List Leg) (laid : LegsLaid p keys legs) where
  -- Names rise, so no leg stands between two whose names follow each other.
  legs_in_runs : InRuns legs
  legs_in_runs i j hi hj st =
      let next = next_name (get_or legs j no_leg) (get_or legs i no_leg) st in
      elim (cases_order (suc j) i) [
        | inl e ↦ e
        | inr o ↦ elim o [
          | inl far ↦
              let x = laid.rises j (suc j) (omega arith) (omega arith) in
              let y = laid.rises (suc j) i far hi in
              absurd (omega arith)
          | inr back ↦ absurd (not_back next (omega arith))
        ]
      ]
    where
      not_back : name_of (get_or legs i no_leg) ≡ suc (name_of (get_or legs j no_leg)) → i ≤ j → ⊥
      not_back next le = elim (cases_order i j) [
        | inl e ↦ let same = ap (λ k. name_of (get_or legs k no_leg)) e in omega arith
        | inr o ↦ elim o [
          | inl lt ↦ let x = laid.rises i j lt hj in omega arith
          | inr gt ↦ omega arith
        ]
      ]

  -- each leg of the plan stands in the row, and each leg of the row in the plan
  legs_there : (a : Leg) → in_plan a p.legs ≡ true → in_plan a legs ≡ true
  legs_there a e =
      let z = in_plan_place a p.legs e in
      let y = laid.all z.place z.within in
      subst (λ (b : Leg). in_plan b legs ≡ true) (laid.is y.0 y.1 ∙ ap (leg p) y.2 ∙ z.is)
      (place_in_plan legs y.0 y.1)

  legs_here : (a : Leg) → in_plan a legs ≡ true → in_plan a p.legs ≡ true
  legs_here a e =
      let z = in_plan_place a legs e in
      subst (λ (b : Leg). in_plan b p.legs ≡ true) (sym (laid.is z.place z.within) ∙ z.is)
      (place_in_plan p.legs (place_at keys z.place) (laid.within z.place z.within))

-- ---- all rows
--
-- what filling them has left in them, in a plan p₁ that has the legs, walks and changes of the rows
pub record Filled (p : Plan) (keys : List ℕ) (p₁ : Plan) (joins : List Bool) (first link : List ℕ) : Type 0 where
  pub joins_long : length joins ≡ length p₁.legs
  pub first_long : length first ≡ piers p
  pub link_long : length link ≡ length p₁.walks
  pub legs : LegsLaid p keys p₁.legs
  pub joined : (i : ℕ) → i < length p₁.legs → get_or joins i false ≡ is_joined p₁.legs i
  pub walks : p₁.walks ≡ p.walks
  pub change : p₁.change ≡ p.change
  pub chained : Chains (walk_from p₁.walks) (length p₁.walks) (length first) first link (length p₁.walks)

module _ {p : Plan} {keys : List ℕ} {p₁ : Plan} {joins : List Bool} {first link : List ℕ} (s : Sound p)
    (f : Filled p keys p₁ joins first link) where
  same_piers : piers p ≡ piers p₁
  same_piers = ap length (sym f.change)

  pub plans_alike : Alike p p₁
  plans_alike = record {
    legs = legs_there p keys p₁.legs f.legs;
    back = legs_here p keys p₁.legs f.legs;
    walks = f.walks;
    change = f.change;
  }

  leg_within : (i : ℕ) → i < length p₁.legs → LegWithin (piers p₁) (leg p₁ i)
  leg_within i h =
      subst (LegWithin (piers p₁)) (sym (f.legs.is i h))
      (subst (λ n. LegWithin n (leg p (place_at keys i))) same_piers (s.legs _ (f.legs.within i h)))

  walk_within : (j : ℕ) → j < length p₁.walks → WalkWithin (piers p₁) (walk p₁ j)
  walk_within j h =
      subst (λ ws. WalkWithin (piers p₁) (get_or ws j no_walk)) (sym f.walks)
      (subst (λ n. WalkWithin n (walk p j)) same_piers (s.walks j (omega (arith, ap length f.walks))))

  change_within : (k : ℕ) → k < piers p₁ → change_at p₁ k < time_bound
  change_within k h =
      subst (λ cs. get_or cs k 0 < time_bound) (sym f.change) (s.changes k (omega (arith, same_piers)))

  pub plan_laid : Laid p₁ joins first link
  plan_laid = record {
    joins_long = f.joins_long;
    first_long = f.first_long ∙ same_piers;
    link_long = f.link_long;
    legs = leg_within;
    walks = walk_within;
    changes = change_within;
    in_runs = legs_in_runs p keys p₁.legs f.legs;
    joined = f.joined;
    chained = subst (λ n. Chains (walk_from p₁.walks) (length p₁.walks) n first link (length p₁.walks)) (f.first_long ∙ same_piers) f.chained;
  }

-- Walks, between boats and at the end: they take time, and each has a place in the plan.
use Rattle.std.proofs.Common.{◌≡◌, ℕ, zero, suc, ◌+◌, ◌<◌, ◌≤◌, true, false, ◌||◌, ◌⊎◌, List, [], ◌∷◌, length, map, get_or, sym, refl, ap, ◌∙◌, inl, inr, arith}
use Rattle.std.specs.List.{list_any, range_with_len}
use Rattle.std.proofs.lemmas.List.FromFn.{fill_by_all}
use Rattle.std.proofs.lemmas.Bool.{false≢true, or_cases, or_right}
use Rattle.std.proofs.lemmas.Bool.Decides.{nat_tests}
use Rattle.plan.specs.declared.walk.Walk.{Walk}
use Rattle.plan.specs.Legs.{Plan, walk, no_walk}
use Rattle.journey.specs.Steps.{leads, walks_to}
use Rattle.journey.specs.Journeys.{Ends}
use Rattle.journey.specs.Journeys.Ends.{at_once, on_foot}

pub walks_to_none : (s t d u : ℕ) → walks_to [] s t d u ≡ false
unfolding walks_to
walks_to_none s t d u = refl

pub walks_to_more : (w : Walk) (ws : List Walk) (s t d u : ℕ) →
    walks_to (w ∷ ws) s t d u ≡ (leads w s t d u || walks_to ws s t d u)
unfolding walks_to
walks_to_more w ws s t d u = refl

-- a walk takes no less than nothing
pub walks_le : (ws : List Walk) (s t d u : ℕ) → walks_to ws s t d u ≡ true → t ≤ u
unfolding walks_to
walks_le [] s t d u e = absurd (false≢true e)
walks_le (w ∷ ws) s t d u e = let ih = walks_le ws s t d u in grind (arith, nat_tests)

-- who sets out earlier can walk too, and who may come later
pub walks_longer : (ws : List Walk) (s t t₁ d u u₁ : ℕ) → t₁ ≤ t → u ≤ u₁ → walks_to ws s t d u ≡ true →
    walks_to ws s t₁ d u₁ ≡ true
unfolding walks_to
walks_longer [] s t t₁ d u u₁ h l e = e
walks_longer (w ∷ ws) s t t₁ d u u₁ h l e = let ih = walks_longer ws s t t₁ d u u₁ h l in grind (arith, nat_tests)

-- the place of a walk that leads from s, left at t, to d by u
pub record Walked (ws : List Walk) (s t d u : ℕ) : Type 0 where
  pub place : ℕ
  pub within : place < length ws
  pub from : (get_or ws place no_walk).from ≡ s
  pub to : (get_or ws place no_walk).to ≡ d
  pub in_time : t + (get_or ws place no_walk).takes ≤ u

pub walked : (ws : List Walk) (s t d u : ℕ) → walks_to ws s t d u ≡ true → Walked ws s t d u
unfolding walks_to
walked [] s t d u e = absurd (false≢true e)
walked (w ∷ ws) s t d u e =
    found (or_cases (leads w s t d u) (walks_to ws s t d u) e) (walked ws s t d u)
  where
    found : (leads w s t d u ≡ true) ⊎ (walks_to ws s t d u ≡ true) →
        (walks_to ws s t d u ≡ true → Walked ws s t d u) → Walked (w ∷ ws) s t d u
    found (inl h) ih = record {
      place = 0;
      within = omega arith;
      from = grind (arith, nat_tests);
      to = grind (arith, nat_tests);
      in_time = grind (arith, nat_tests);
    }
    found (inr h) ih =
        let x = ih h in
        record { place = suc x.place; within = omega arith; from = x.from; to = x.to; in_time = x.in_time }

-- the walk at a place of the plan leads there
pub walks_at : (ws : List Walk) (s t d u i : ℕ) → i < length ws →
    (get_or ws i no_walk).from ≡ s → (get_or ws i no_walk).to ≡ d → t + (get_or ws i no_walk).takes ≤ u →
    walks_to ws s t d u ≡ true
unfolding walks_to
walks_at [] s t d u i h e f l = absurd (omega arith)
walks_at (w ∷ ws) s t d u zero h e f l = grind (arith, nat_tests)
walks_at (w ∷ ws) s t d u (suc i) h e f l = or_right _ (walks_to ws s t d u) (walks_at ws s t d u i (omega arith) e f l)

pub walked_back : (ws : List Walk) (s t d u : ℕ) → Walked ws s t d u → walks_to ws s t d u ≡ true
walked_back ws s t d u x = walks_at ws s t d u x.place x.within x.from x.to x.in_time

-- a search of the walks by their places in the plan finds what a search of their list does
walks_map : (f : ℕ → Walk) (js : List ℕ) (s t d u : ℕ) →
    list_any (λ j. leads (f j) s t d u) js ≡ walks_to (map f js) s t d u
unfolding walks_to
walks_map f [] s t d u = refl
walks_map f (j ∷ js) s t d u = ap (λ b. leads (f j) s t d u || b) (walks_map f js s t d u)

pub walks_placed : (ws : List Walk) → map (λ j. get_or ws j no_walk) (range_with_len 0 (length ws)) ≡ ws
walks_placed ws = sym (fill_by_all (λ j. get_or ws j no_walk) ws (length ws) no_walk refl (λ k _. refl))

pub walks_by_place : (ws : List Walk) (s t d u : ℕ) →
    list_any (λ j. leads (get_or ws j no_walk) s t d u) (range_with_len 0 (length ws)) ≡ walks_to ws s t d u
walks_by_place ws s t d u =
    walks_map (λ j. get_or ws j no_walk) (range_with_len 0 (length ws)) s t d u
    ∙ ap (λ vs. walks_to vs s t d u) (walks_placed ws)

-- the end of a journey takes no less than nothing
pub ends_le : {p : Plan} {d s t u : ℕ} → Ends p d s t u → t ≤ u
ends_le at_once = omega arith
ends_le (on_foot j h e f) = omega arith

-- at the end one is at the pier, or some walk leads there
pub ends_cases : {p : Plan} {d s t u : ℕ} → Ends p d s t u → ((s ≡ d) × (u ≡ t)) ⊎ (walks_to p.walks s t d u ≡ true)
ends_cases at_once = inl (refl, refl)
ends_cases {p} {d} {s} {t} (on_foot j h e f) = inr (walks_at p.walks s t d (t + (walk p j).takes) j h e f (omega arith))

-- who is at the pier earlier is at the end no later
pub ends_earlier : {p : Plan} {d s t u : ℕ} (v : ℕ) → v ≤ t → Ends p d s t u → (w : ℕ) × Ends p d s v w × (w ≤ u)
ends_earlier v h at_once = (v, at_once, h)
ends_earlier {p} v h (on_foot j l e f) = (v + (walk p j).takes, on_foot j l e f, omega arith)

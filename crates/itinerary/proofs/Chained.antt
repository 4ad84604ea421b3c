-- A search of the walks of one pier by their chain misses none.
use Rattle.std.proofs.Common.{◌≡◌, ℕ, suc, ◌+◌, ◌<◌, ◌≤◌, true, false, eqb, List, length, get_or, sym, refl, subst, ⊎_elim, arith}
use Rattle.std.proofs.lemmas.Bool.{cases_Bool, eq-eqb, eqb-true, le-leb, leb-true, and_parts, and_from}
use Rattle.plan.specs.declared.walk.Walk.{Walk}
use Rattle.plan.specs.Legs.{Plan, walk, no_walk}
use Rattle.journey.specs.Steps.{leads, walks_to}
use Rattle.journey.specs.Journeys.{Ends}
use Rattle.journey.specs.Journeys.Ends.{at_once, on_foot}
use Rattle.journey.proofs.Walking.{walked, walked_back}
use Rattle.rounds.specs.Layout.{Chains, ChainAt, walk_from}
use Rattle.rounds.proofs.Linking.{chain_last, chain_next, chain_which}

-- no walk of the pier s at the place `at` or behind it is such a one
pub record Missed (ws : List Walk) (P : ℕ → Type 0) (s at : ℕ) : Type 0 where
  pub here : ChainAt (walk_from ws) (length ws) s at
  pub none : (i : ℕ) → at ≤ i → i < length ws → (get_or ws i no_walk).from ≡ s → P i → ⊥

module _ {ws : List Walk} {n : ℕ} {first link : List ℕ} (ls : Chains (walk_from ws) (length ws) n first link (length ws))
    {P : ℕ → Type 0} {s : ℕ} where
  -- none was missed before the search
  pub missed_none : s < n → Missed ws P s (get_or first s 0)
  missed_none h = record {
    here = ls.first_at s h;
    none = λ i l r e x. chain_last (walk_from ws) ls i l r e;
  }

  -- the walk at v, one before the place `at`, is no such one either
  pub missed_more : (v : ℕ) {at : ℕ} → suc v ≡ at → Missed ws P s at → (P v → ⊥) → Missed ws P s (get_or link v 0)
  missed_more v {at} next m not = record {
    here = chain_next (walk_from ws) ls v next m.here;
    none = λ i l r e x. ⊎_elim (λ old. m.none i old r e x) (λ same. not (subst P (sym same) x))
        (chain_which (walk_from ws) ls v next m.here i l e);
  }

-- the walk at i leads there in time
abbrev pub Leads : List Walk → ℕ → ℕ → ℕ → ℕ → ℕ → Type 0
Leads ws s t d u i = leads (get_or ws i no_walk) s t d u ≡ true

-- where all were missed no walk leads there
pub missed_walks : (ws : List Walk) (s t d u : ℕ) {at : ℕ} → at ≡ 0 → Missed ws (Leads ws s t d u) s at →
    walks_to ws s t d u ≡ false
missed_walks ws s t d u {at} done m =
    ⊎_elim
    (λ e.
    let w = walked ws s t d u e in
    let lead = and_from _ _ (eq-eqb _ _ w.from) (and_from _ _ (eq-eqb _ _ w.to) (le-leb _ _ w.in_time)) in
    absurd (m.none w.place (omega arith) w.within w.from lead))
    (λ e. e)
    (cases_Bool (walks_to ws s t d u))

pub found_walks : (ws : List Walk) (s t d u : ℕ) (v : ℕ) → v < length ws → Leads ws s t d u v → walks_to ws s t d u ≡ true
found_walks ws s t d u v h e =
    let a = and_parts (eqb (get_or ws v no_walk).from s) _ e in
    let b = and_parts (eqb (get_or ws v no_walk).to d) _ a.1 in
    walked_back ws s t d u
    (record { place = v; within = h; from = eqb-true _ _ a.0; to = eqb-true _ _ b.0; in_time = leb-true _ _ b.1 })

-- the walk at i is at the pier d at the time u, if it is left at the time t
abbrev pub ThereAt : List Walk → ℕ → ℕ → ℕ → ℕ → Type 0
ThereAt ws t d u i = ((get_or ws i no_walk).to ≡ d) × (t + (get_or ws i no_walk).takes ≡ u)

pub missed_ends : {p : Plan} {d s t u at : ℕ} → at ≡ 0 → ((s ≡ d) × (t ≡ u) → ⊥) →
    Missed p.walks (ThereAt p.walks t d u) s at →
    Ends p d s t u → ⊥
missed_ends done not m at_once = not (refl, refl)
missed_ends done not m (on_foot j h e f) = m.none j (omega arith) h e (f, refl)

pub found_ends : {p : Plan} {d s t u : ℕ} (j : ℕ) → j < length p.walks → (walk p j).from ≡ s →
    ThereAt p.walks t d u j → Ends p d s t u
found_ends {p} {d} {s} {t} j h e f = subst (Ends p d s t) f.1 (on_foot j h e f.0)

pub at_once_ends : {p : Plan} {d s t u : ℕ} → s ≡ d → t ≡ u → Ends p d s t u
at_once_ends {p} {d} {s} {t} {u} e f = subst (λ (z : ℕ). Ends p z s t u) e (subst (Ends p s s t) f at_once)

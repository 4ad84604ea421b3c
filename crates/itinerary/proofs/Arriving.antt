-- The search by chains: each leg that may stand before another comes to its pier, or to where a walk to that begins.
use Rattle.std.proofs.Common.{◌≡◌, ℕ, suc, ◌<◌, ◌≤◌, Bool, true, false, ◌⊎◌, List, length, get_or, Some, None, Option, sym, refl, ap, ◌∙◌, subst, inl, inr, ⊎_elim, arith}
use Rattle.std.proofs.lemmas.Bool.{cases_Bool}
use Rattle.std.proofs.lemmas.Bool.Decides.{nat_tests}
use Rattle.plan.specs.Legs.{Plan, leg, walk}
use Rattle.journey.specs.Steps.{walks}
use Rattle.journey.specs.Journeys.{Ends, NamedOnce}
use Rattle.journey.specs.Journeys.Ends.{at_once, on_foot}
use Rattle.journey.proofs.Walking.{walked}
use Rattle.rounds.specs.Layout.{ChainAt, Chains}
use Rattle.rounds.proofs.Linking.{chain_last, chain_inside, chain_next, chain_which}
use Rattle.itinerary.specs.Arrivals.{leg_to, walk_to}
use Rattle.itinerary.specs.Tracing.{Prior, first_of}
use Rattle.itinerary.specs.Searching.{ByWalk, Near, Found, none_fits, first_fits}
use Rattle.itinerary.proofs.Picking.{found_fewer, found_both}

-- ---- the legs that come to one pier

-- the first of those that fit, when the legs at the place `at` and behind it were looked at
pub record Looked (p : Plan) (Told : ℕ → Bool → Type 0) (pier at : ℕ) (o : Option ℕ) : Type 0 where
  pub here : ChainAt (leg_to p.legs) (length p.legs) pier at
  pub best : Found p (λ x. (at ≤ x) × ((leg p x).to ≡ pier)) Told (length p.legs) o

module _ {p : Plan} {Told : ℕ → Bool → Type 0} {n_piers : ℕ} {last prior : List ℕ}
    (cs : Chains (leg_to p.legs) (length p.legs) n_piers last prior (length p.legs)) {pier : ℕ} where
  pub looked_none : pier < n_piers → Looked p Told pier (get_or last pier 0) None
  looked_none h = record {
    here = cs.first_at pier h;
    best = none_fits (λ y l g. absurd (chain_last (leg_to p.legs) cs y g.0 l g.1));
  }

  -- the leg at v, one before the place `at`
  module _ (v : ℕ) {at : ℕ} (next : suc v ≡ at) (once : NamedOnce p.legs) {o : Option ℕ} (k : Looked p Told pier at o) where
    more : {found : Option ℕ} → Found p (λ y. v ≡ y) Told (length p.legs) found →
        Looked p Told pier (get_or prior v 0) (first_of p o found)
    more one = record {
      here = chain_next (leg_to p.legs) cs v next k.here;
      best = found_both once _
          (λ y h g. ⊎_elim (λ old. inl (old, g.1)) inr (chain_which (leg_to p.legs) cs v next k.here y g.0 g.1))
          k.best one;
    }

    pub looked_skip : Told v false → Looked p Told pier (get_or prior v 0) o
    looked_skip told = more (none_fits (λ y h same. subst (λ z. Told z false) same told))

    pub looked_take : Told v true → Looked p Told pier (get_or prior v 0) (first_of p o (Some v))
    looked_take told = more (first_fits (record {
      within = chain_inside (leg_to p.legs) cs v next k.here;
      fits = told;
      rest = λ y h same. inr (inl (ap (leg p) (sym same)));
    }))

pub looked_all : {p : Plan} {Told : ℕ → Bool → Type 0} {pier at : ℕ} {o : Option ℕ} → at ≡ 0 →
    Looked p Told pier at o → Found p (λ x. (leg p x).to ≡ pier) Told (length p.legs) o
looked_all done k = found_fewer _ (λ y h g. (omega arith, g)) k.best

-- ---- the walks to the pier

-- a walk at the place `at` or behind it leads from the one pier to the other
pub record WalkFrom (p : Plan) (from to at : ℕ) : Type 0 where
  pub walk : ByWalk p from to
  pub past : at ≤ walk.place

-- whoever is at the pier `from` gets to the other: it is the same, or by such a walk
abbrev pub NearFrom : Plan → ℕ → ℕ → ℕ → Type 0
NearFrom p to at from = (from ≡ to) ⊎ WalkFrom p from to at

-- where a journey ends by a time one is near, or the last leg comes there
pub ends_near : {p : Plan} {d s t u : ℕ} → Ends p d s t u → Near p d s
ends_near at_once = inl refl
ends_near (on_foot j h e to) = inr (record { place = j; within = h; leaves_from = e; comes_to = to })

-- each leg that may stand before the leg at i comes near the pier that this one goes from
pub prior_near : (p : Plan) (level : List ℕ) (i x : ℕ) → Prior p level i x → Near p (leg p i).from (leg p x).to
prior_near p level i x f =
    ⊎_elim
    (λ e. let w = walked p.walks _ _ _ _ e in
    inr (record { place = w.place; within = w.within; leaves_from = w.from; comes_to = w.to }))
    (λ e. let same : (leg p x).to ≡ (leg p i).from = grind (arith, nat_tests) in inl same)
    (cases_Bool (walks p (leg p x) (leg p i)))

-- the first of those that fit and come to the pier, or to where a walk to it begins that was gone back along
pub record Searched (p : Plan) (Told : ℕ → Bool → Type 0) (pier at : ℕ) (o : Option ℕ) : Type 0 where
  pub here : ChainAt (walk_to p.walks) (length p.walks) pier at
  pub best : Found p (λ x. NearFrom p pier at (leg p x).to) Told (length p.legs) o

module _ {p : Plan} {Told : ℕ → Bool → Type 0} {pier n_piers : ℕ} {last prior : List ℕ}
    (cs : Chains (walk_to p.walks) (length p.walks) n_piers last prior (length p.walks)) where
  pub searched_none : {o : Option ℕ} → pier < n_piers →
      Found p (λ x. (leg p x).to ≡ pier) Told (length p.legs) o → Searched p Told pier (get_or last pier 0) o
  searched_none h c = record {
    here = cs.first_at pier h;
    best = found_fewer _ (λ y l g. ⊎_elim (λ e. e) (λ w. absurd (none w)) g) c;
  }
    where
      none : {from : ℕ} → WalkFrom p from pier (get_or last pier 0) → ⊥
      none w = chain_last (walk_to p.walks) cs w.walk.place w.past w.walk.within w.walk.comes_to

  -- the walk at v, one before the place `at`, and the first of those that fit and come to where it begins
  pub searched_more : NamedOnce p.legs → (v : ℕ) {at : ℕ} → suc v ≡ at → {o found : Option ℕ} →
      Searched p Told pier at o → Found p (λ x. (leg p x).to ≡ (walk p v).from) Told (length p.legs) found →
      Searched p Told pier (get_or prior v 0) (first_of p o found)
  searched_more once v {at} next k c = record {
    here = chain_next (walk_to p.walks) cs v next k.here;
    best = found_both once _ (λ y h. split y) k.best c;
  }
    where
      split : (y : ℕ) → NearFrom p pier (get_or prior v 0) (leg p y).to →
          NearFrom p pier at (leg p y).to ⊎ ((leg p y).to ≡ (walk p v).from)
      split y (inl e) = inl (inl e)
      split y (inr w) =
          ⊎_elim
          (λ old. inl (inr (record { walk = w.walk; past = old })))
          (λ same. inr (sym w.walk.leaves_from ∙ ap (λ j. (walk p j).from) (sym same)))
          (chain_which (walk_to p.walks) cs v next k.here w.walk.place w.past w.walk.comes_to)

pub searched_all : {p : Plan} {Told : ℕ → Bool → Type 0} {pier at : ℕ} {o : Option ℕ} → at ≡ 0 →
    Searched p Told pier at o → Found p (λ x. Near p pier (leg p x).to) Told (length p.legs) o
searched_all done k =
    found_fewer _ (λ y h g. ⊎_elim inl (λ w. inr (record { walk = w; past = omega arith })) g) k.best

-- The earliest time at one pier: what a leg and the walks from where it comes make of it.
use Rattle.std.proofs.Common.{◌≡◌, ℕ, suc, ◌+◌, ◌<◌, ◌≤◌, ◌⊎◌, List, length, get_or, sym, refl, ap, ◌∙◌, subst, inl, inr, ⊎_elim, zero-le, le_refl, add-zero, arith}
use Rattle.std.proofs.lemmas.Bool.{cases_lt}
use Rattle.std.proofs.lemmas.Bool.Decides.{nat_tests}
use Rattle.plan.specs.declared.walk.Walk.{Walk}
use Rattle.plan.specs.Legs.{Plan, walk, no_walk}
use Rattle.journey.specs.Journeys.{Ends}
use Rattle.journey.specs.Journeys.Ends.{at_once, on_foot}
use Rattle.rounds.specs.Layout.{ChainAt, Chains, walk_from}
use Rattle.rounds.specs.Times.{earlier, Put}
use Rattle.rounds.proofs.Linking.{chain_last, chain_inside, chain_which}
use Rattle.rounds.proofs.Levels.{Gets, at_pier, on_walk}

-- x₁ is the least of x and the times T
pub record Lowers (T : ℕ → Type 0) (x x₁ : ℕ) : Type 0 where
  pub below : x₁ ≤ x
  pub offers : (y : ℕ) → T y → x₁ ≤ y
  pub given : (x₁ ≡ x) ⊎ T x₁

pub earlier_first : (a b : ℕ) → earlier a b ≤ a
earlier_first a b = grind (arith, nat_tests)

pub earlier_second : (a b : ℕ) → earlier a b ≤ b
earlier_second a b = grind (arith, nat_tests)

pub earlier_either : (a b : ℕ) → (earlier a b ≡ b) ⊎ (earlier a b ≡ a)
earlier_either a b = ⊎_elim (λ h. inr (at_lt h)) (λ h. inl (at_ge h)) (cases_lt a b)
  where
    at_lt : a < b → earlier a b ≡ a
    at_lt h = grind (arith, nat_tests)

    at_ge : b ≤ a → earlier a b ≡ b
    at_ge h = grind (arith, nat_tests)

-- a walk from the pier s to the pier d, left at the time t, is there at the time x
pub record Foot (ws : List Walk) (s t d x : ℕ) : Type 0 where
  pub place : ℕ
  pub within : place < length ws
  pub from : (get_or ws place no_walk).from ≡ s
  pub to : (get_or ws place no_walk).to ≡ d
  pub is : x ≡ t + (get_or ws place no_walk).takes

-- what the walks from the pier s, left at the time t, make of the earliest time at the pier d: those at the place `at`
-- or behind it were gone through
pub record Gone (ws : List Walk) (s t d x x₁ at : ℕ) : Type 0 where
  pub below : x₁ ≤ x
  pub walked : (i : ℕ) → at ≤ i → i < length ws → (get_or ws i no_walk).from ≡ s → (get_or ws i no_walk).to ≡ d →
      x₁ ≤ t + (get_or ws i no_walk).takes
  pub given : (x₁ ≡ x) ⊎ Foot ws s t d x₁

-- The walks of one pier by their chain, from the last to the first.
module _ {ws : List Walk} {n : ℕ} {first link : List ℕ} (ls : Chains (walk_from ws) (length ws) n first link (length ws)) {s : ℕ} where
  pub gone_none : {t d x : ℕ} → Gone ws s t d x x (get_or first s 0)
  gone_none = record {
    below = le_refl _;
    walked = λ i l h e f. absurd (chain_last (walk_from ws) ls i l h e);
    given = inl refl;
  }

module _ {ws : List Walk} {n : ℕ} {first link : List ℕ} (ls : Chains (walk_from ws) (length ws) n first link (length ws)) {s : ℕ}
    (v : ℕ) (w : Walk) (is : w ≡ get_or ws v no_walk) {at : ℕ} (here : suc v ≡ at) (ok : ChainAt (walk_from ws) (length ws) s at) where
  -- the walk at v, one before the place `at`
  pub gone_more : {t d x x₁ x₂ : ℕ} → Gone ws s t d x x₁ at → Put w.to (t + w.takes) d x₁ x₂ →
      Gone ws s t d x x₂ (get_or link v 0)
  gone_more {t} {d} {x} {x₁} {x₂} g (inl (to, e)) = record {
    below = omega (arith, earlier_second u x₁, b, g.below);
    walked = λ i o h f k.
        ⊎_elim
        (λ old. omega (arith, earlier_second u x₁, b, g.walked i old h f k))
        (λ same. subst (λ m. x₂ ≤ t + (get_or ws m no_walk).takes) same (omega (arith, earlier_first u x₁, b)))
        (chain_which (walk_from ws) ls v here ok i o f);
    given =
        ⊎_elim
        (λ y. ⊎_elim (λ z. inl (b ∙ y ∙ z)) (λ z. inr (subst (Foot ws s t d) (sym (b ∙ y)) z)) g.given)
        (λ y. inr (record {
          place = v;
          within = chain_inside (walk_from ws) ls v here ok;
          from = ok.of v here;
          to = sym (ap (λ (z : Walk). z.to) is) ∙ to;
          is = b ∙ y;
        }))
        (earlier_either u x₁);
  }
    where
      u : ℕ
      u = t + (get_or ws v no_walk).takes

      b : x₂ ≡ earlier u x₁
      b = e ∙ ap (λ (z : Walk). earlier (t + z.takes) x₁) is
  gone_more {t} {d} {x} {x₁} {x₂} g (inr (other, e)) = record {
    below = omega (arith, e, g.below);
    walked = λ i o h f k.
        ⊎_elim
        (λ old. omega (arith, e, g.walked i old h f k))
        (λ same. absurd (other (ap (λ (z : Walk). z.to) is ∙ ap (λ m. (get_or ws m no_walk).to) same ∙ k)))
        (chain_which (walk_from ws) ls v here ok i o f);
    given = ⊎_elim (λ z. inl (e ∙ z)) (λ z. inr (subst (Foot ws s t d) (sym e) z)) g.given;
  }

gets_late : {p : Plan} {c : ℕ → ℕ} {d s t y : ℕ} (x : ℕ) → (s ≡ d → x ≤ t + c s) →
    ((j : ℕ) → j < length p.walks → (walk p j).from ≡ s → (walk p j).to ≡ d → x ≤ t + (walk p j).takes) →
    Gets p c d s t y → x ≤ y
gets_late x h f at_pier = h refl
gets_late x h f (on_walk j l e k) = f j l e k

-- The pier itself, and then each walk from it, are all the ways on.
pub gone_all : {p : Plan} {d s t x x₁ x₂ : ℕ} (c : ℕ → ℕ) → Put s (t + c s) d x x₁ → Gone p.walks s t d x₁ x₂ 0 →
    Lowers (Gets p c d s t) x x₂
gone_all {p} {d} {s} {t} {x} {x₁} {x₂} c put g = record {
  below = omega (arith, g.below, put_below put);
  offers = λ y o. gets_late x₂ (here put) (λ j. g.walked j zero-le) o;
  given = ⊎_elim (λ e. from_put put e) (λ f. inr (from_foot f)) g.given;
}
  where
    put_below : Put s (t + c s) d x x₁ → x₁ ≤ x
    put_below (inl (is, e)) = omega (arith, e, earlier_second (t + c s) x)
    put_below (inr (is, e)) = omega (arith, e)

    here : Put s (t + c s) d x x₁ → s ≡ d → x₂ ≤ t + c s
    here (inl (is, e)) same = omega (arith, e, earlier_first (t + c s) x, g.below)
    here (inr (is, e)) same = absurd (is same)

    from_put : Put s (t + c s) d x x₁ → x₂ ≡ x₁ → (x₂ ≡ x) ⊎ Gets p c d s t x₂
    from_put (inr (is, e)) f = inl (f ∙ e)
    from_put (inl (is, e)) f =
        ⊎_elim
        (λ z. inl (f ∙ e ∙ z))
        (λ z. inr (subst (Gets p c d s t) (sym (f ∙ e ∙ z)) (subst (λ m. Gets p c m s t (t + c s)) is at_pier)))
        (earlier_either (t + c s) x)

    from_foot : Foot p.walks s t d x₂ → Gets p c d s t x₂
    from_foot f = subst (Gets p c d s t) (sym f.is) (on_walk f.place f.within f.from f.to)

-- no minutes at the pier itself
abbrev pub at_once_there : ℕ → ℕ
at_once_there s = 0

-- the end of a journey is such a way on, where the pier itself takes no minutes
pub ends_gets : {p : Plan} {d s t x : ℕ} → Ends p d s t x → Gets p at_once_there d s t x
ends_gets {p} {d} {s} {t} at_once = subst (Gets p at_once_there d d t) (add-zero t) at_pier
ends_gets (on_foot j h e f) = on_walk j h e f

pub gets_ends : {p : Plan} {d s t x : ℕ} → Gets p at_once_there d s t x → Ends p d s t x
gets_ends {p} {d} (at_pier {t = t}) = subst (Ends p d d t) (sym (add-zero t)) at_once
gets_ends (on_walk j h e f) = on_foot j h e f

-- who is somewhere earlier gets on no later
pub gets_sooner : {p : Plan} {c : ℕ → ℕ} {d s t x : ℕ} (y : ℕ) → y ≤ t → Gets p c d s t x →
    (z : ℕ) × (z ≤ x) × Gets p c d s y z
gets_sooner {c = c} {d = d} y h at_pier = (y + c d, omega arith, at_pier)
gets_sooner {p} y h (on_walk j l e f) = (y + (walk p j).takes, omega arith, on_walk j l e f)

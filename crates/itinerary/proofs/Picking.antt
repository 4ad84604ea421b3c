-- Of legs that may stand somewhere the one that comes first, when more of them come to hand.
use Rattle.std.proofs.Common.{◌≡◌, ℕ, ◌<◌, Bool, true, false, cond, ◌⊎◌, length, Some, None, Option, sym, subst, inl, inr, ⊎_elim}
use Rattle.std.proofs.lemmas.Bool.{cond_both}
use Rattle.plan.specs.Legs.{Plan, leg}
use Rattle.journey.specs.Journeys.{NamedOnce}
use Rattle.journey.proofs.PlanLegs.{place_in_plan}
use Rattle.itinerary.specs.Order.{before}
use Rattle.itinerary.specs.Tracing.{Chosen, first_of, Within}
use Rattle.itinerary.specs.Searching.{Behind, Found, none_fits, first_fits}
use Rattle.itinerary.proofs.Preceding.{before_else, before_trans}

-- the leg that was chosen is one of them
pub chosen_within : (p : Plan) (Good : ℕ → Type 0) (n : ℕ) (o : Option ℕ) → Chosen p Good n o → Within o n
chosen_within p Good n None c = tt
chosen_within p Good n (Some x) c = c.within

-- the same legs are good
pub chosen_same : (p : Plan) (n : ℕ) (G H : ℕ → Type 0) → ((y : ℕ) → y < n → G y → H y) →
    ((y : ℕ) → y < n → H y → G y) → (o : Option ℕ) → Chosen p G n o → Chosen p H n o
chosen_same p n G H to from None c = λ y h g. c y h (from y h g)
chosen_same p n G H to from (Some x) c = record {
  within = c.within;
  good = to x c.within c.good;
  first = λ y h g. c.first y h (from y h g);
}

pub found_within : {p : Plan} {n : ℕ} {Kind : ℕ → Type 0} {Told : ℕ → Bool → Type 0} {o : Option ℕ} →
    Found p Kind Told n o → Within o n
found_within (none_fits c) = tt
found_within (first_fits c) = c.within

module _ {p : Plan} {n : ℕ} {G : ℕ → Type 0} {Told : ℕ → Bool → Type 0} where
  -- fewer legs were to be told of
  pub found_fewer : (H : ℕ → Type 0) → ((y : ℕ) → y < n → H y → G y) → {o : Option ℕ} →
      Found p G Told n o → Found p H Told n o
  found_fewer H from (none_fits c) = none_fits (λ y h g. c y h (from y h g))
  found_fewer H from (first_fits c) = first_fits (record {
    within = c.within;
    fits = c.fits;
    rest = λ y h g. c.rest y h (from y h g);
  })

  -- what is told to fit is good, and no good leg is told not to
  pub found_chosen : (H : ℕ → Type 0) → {o : Option ℕ} → Found p G Told n o →
      ((y : ℕ) → y < n → Told y true → H y) →
      ((y : ℕ) → y < n → H y → G y × (Told y false → ⊥)) → Chosen p H n o
  found_chosen H (none_fits c) to from = λ y h g. let (kind, not_no) = from y h g in not_no (c y h kind)
  found_chosen H (first_fits c) to from = record {
    within = c.within;
    good = to _ c.within c.fits;
    first = λ y h g.
        let (kind, not_no) = from y h g in
        ⊎_elim (λ told. absurd (not_no told)) (λ b. b) (c.rest y h kind);
  }

chosen_found : (p : Plan) (n : ℕ) (G H : ℕ → Type 0) → ((y : ℕ) → G y → H y) → (o : Option ℕ) → Chosen p G n o →
    Found p G (λ y b. cond b (H y) ⊥) n o
chosen_found p n G H to None c = none_fits c
chosen_found p n G H to (Some x) c = first_fits (record {
  within = c.within;
  fits = to x c.good;
  rest = λ y h g. inr (c.first y h g);
})

module _ (p : Plan) (once : NamedOnce p.legs) (x y z : ℕ) where
  -- what comes behind a leg comes behind all that comes before it
  ahead : before (leg p x) (leg p y) ≡ true → Behind p y z → Behind p x z
  ahead e (inl is) = inr (subst (λ a. before (leg p x) a ≡ true) (sym is) e)
  ahead e (inr f) = inr (before_trans (leg p x) (leg p y) (leg p z) e f)

  not_ahead : x < length p.legs → y < length p.legs → before (leg p x) (leg p y) ≡ false → Behind p x z → Behind p y z
  not_ahead h l e b =
      ⊎_elim
      (λ same. subst (λ a. (leg p z ≡ a) ⊎ (before a (leg p z) ≡ true)) same b)
      (λ f. ⊎_elim
      (λ is. inr (subst (λ a. before (leg p y) a ≡ true) (sym is) f))
      (λ g. inr (before_trans (leg p y) (leg p x) (leg p z) f g))
      b)
      (before_else p.legs once (leg p x) (leg p y) (place_in_plan p.legs x h) (place_in_plan p.legs y l) e)

-- The first of the legs G and the first of the legs F: the one of both that comes first is the first of all of them.
pub found_both : {p : Plan} → NamedOnce p.legs → {G F : ℕ → Type 0} (H : ℕ → Type 0) →
    ((y : ℕ) → y < length p.legs → H y → G y ⊎ F y) → {Told : ℕ → Bool → Type 0} {o₁ o₂ : Option ℕ} →
    Found p G Told (length p.legs) o₁ → Found p F Told (length p.legs) o₂ →
    Found p H Told (length p.legs) (first_of p o₁ o₂)
found_both once H split (none_fits c) (none_fits d) = none_fits (λ y h g. ⊎_elim (c y h) (d y h) (split y h g))
found_both once H split (first_fits c) (none_fits d) = first_fits (record {
  within = c.within;
  fits = c.fits;
  rest = λ z h g. ⊎_elim (c.rest z h) (λ f. inl (d z h f)) (split z h g);
})
found_both once H split (none_fits c) (first_fits d) = first_fits (record {
  within = d.within;
  fits = d.fits;
  rest = λ z h g. ⊎_elim (λ f. inl (c z h f)) (d.rest z h) (split z h g);
})
found_both {p} once H split {Told} (first_fits {x = y} c) (first_fits {x = x} d) =
    cond_both (before (leg p x) (leg p y)) (Some x) (Some y) (Found p H Told (length p.legs))
    (λ e. first_fits (record {
      within = d.within;
      fits = d.fits;
      rest = λ z h g.
          ⊎_elim (λ f. ⊎_elim inl (λ b. inr (ahead p once x y z e b)) (c.rest z h f)) (d.rest z h) (split z h g);
    }))
    (λ e. first_fits (record {
      within = c.within;
      fits = c.fits;
      rest = λ z h g.
          ⊎_elim (c.rest z h)
          (λ f. ⊎_elim inl (λ b. inr (not_ahead p once x y z d.within c.within e b)) (d.rest z h f))
          (split z h g);
    }))

pub chosen_both : (p : Plan) → NamedOnce p.legs → (G F H : ℕ → Type 0) → ((y : ℕ) → G y → H y) →
    ((y : ℕ) → F y → H y) → ((y : ℕ) → y < length p.legs → H y → G y ⊎ F y) → (o₁ o₂ : Option ℕ) →
    Chosen p G (length p.legs) o₁ → Chosen p F (length p.legs) o₂ → Chosen p H (length p.legs) (first_of p o₁ o₂)
chosen_both p once G F H left right split o₁ o₂ c d =
    found_chosen H (found_both once H split (chosen_found p (length p.legs) G H left o₁ c)
    (chosen_found p (length p.legs) F H right o₂ d)) (λ y h good. good) (λ y h good. (good, λ told. told))

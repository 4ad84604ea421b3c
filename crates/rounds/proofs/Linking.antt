-- Chains of things by the pier that each belongs to: going along a chain misses none of its pier.
use Rattle.std.proofs.Common.{◌≡◌, ℕ, suc, ◌<◌, ◌≤◌, ◌⊎◌, List, [], ◌∷◌, length, get_or, sym, ◌∙◌, subst, inl, inr, ⊎_elim, arith}
use Rattle.std.proofs.lemmas.Bool.{cases_lt, cases_eq}
use Rattle.rounds.specs.Chains.{Falls, places}
use Rattle.rounds.specs.Layout.{ChainAt, Chains}
use Rattle.rounds.proofs.Along.{places_first, places_end}

module _ (pier : ℕ → ℕ) {n n_piers : ℕ} {first link : List ℕ} (cs : Chains pier n n_piers first link n) {s : ℕ} where
  -- nothing of the pier stands behind the last one of its chain
  pub chain_last : (i : ℕ) → get_or first s 0 ≤ i → i < n → pier i ≡ s → ⊥
  chain_last i l h e = let u = subst (λ z. i < get_or first z 0) e (cs.first_all i h) in omega arith

  -- the one at v, one before the place `at`
  module _ (v : ℕ) {at : ℕ} (here : suc v ≡ at) (ok : ChainAt pier n s at) where
    pub chain_inside : v < n
    chain_inside = omega (arith, ok.within)

    pub chain_next : ChainAt pier n s (get_or link v 0)
    chain_next = subst (λ z. ChainAt pier n z (get_or link v 0)) (ok.of v here) (cs.link_at v chain_inside)

    -- what belongs to the pier from the next one on is this one, or stands behind it
    pub chain_which : (i : ℕ) → get_or link v 0 ≤ i → pier i ≡ s → (at ≤ i) ⊎ (v ≡ i)
    chain_which i l e =
        ⊎_elim
        (λ o. absurd (let u = cs.link_all v i chain_inside o (e ∙ sym (ok.of v here)) in omega arith))
        (λ o. ⊎_elim (λ same. inr same) (λ ne. inl (past ne o)) (cases_eq v i))
        (cases_lt i v)
      where
        past : (v ≡ i → ⊥) → v ≤ i → at ≤ i
        past ne o = ⊎_elim (λ lt. omega arith) (λ ge. absurd (ne (omega arith))) (cases_lt v i)

-- ---- along a chain, place by place
module _ (pier : ℕ → ℕ) {n n_piers : ℕ} {first link : List ℕ} (cs : Chains pier n n_piers first link n)
    (long : length link ≡ n) where
  pub chain_falls : Falls link
  chain_falls i h = cs.link_less i (omega arith)

  pub chain_within : length first ≡ n_piers → (s : ℕ) → s < length first → get_or first s 0 ≤ length link
  chain_within piers s h = let z = cs.first_less s (omega arith) in omega arith

  -- the next place is the one before `at`, and behind it comes what it is linked to
  pub chain_step : {s at i : ℕ} {rest rest₁ : List ℕ} → ChainAt pier n s at → rest ≡ places link at → rest ≡ i ∷ rest₁ →
      (suc i ≡ at) × (rest₁ ≡ places link (get_or link i 0))
  chain_step {at = at} {i = i} {rest₁ = rest₁} ok left next =
      places_first link chain_falls at i rest₁ (omega (arith, ok.within)) (sym left ∙ next)

  -- where no place is left, `at` is 0
  pub chain_end : {s at : ℕ} {rest : List ℕ} → ChainAt pier n s at → rest ≡ places link at → rest ≡ [] → at ≡ 0
  chain_end {at = at} ok left none = places_end link chain_falls at (omega (arith, ok.within)) (sym left ∙ none)

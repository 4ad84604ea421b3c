-- The chains of what comes to each pier, at the fronts of rows.
use Rattle.std.proofs.Common.{◌≡◌, ℕ, ◌<◌, ◌≤◌, List, length, take, get_or, subst, arith, length-take}
use Rattle.rounds.specs.Chains.{Falls}
use Rattle.rounds.specs.Layout.{Chains}
use Rattle.rounds.proofs.Linking.{chain_falls, chain_within}

-- for things of any kind in a row, by the pier that the thing at a place comes to
module _ {A : Type 0} (to : List A → ℕ → ℕ) (row : List A) where
  -- chains cut from rows at other numbers that are the same
  pub chains_cut : (last prior : List ℕ) (m s n k x : ℕ) → m ≡ n → s ≡ k → k ≡ x →
      Chains (to (take m row)) (length (take m row)) s (take s last) (take m prior) (length (take m row)) →
      Chains (to (take n row)) (length (take n row)) x (take k last) (take n prior) (length (take n row))
  chains_cut last prior m s n k x en ek ex c =
      subst (λ y. Chains (to (take n row)) (length (take n row)) y (take k last) (take n prior) (length (take n row))) ex
      (subst (λ y. Chains (to (take n row)) (length (take n row)) y (take y last) (take n prior) (length (take n row))) ek
      (subst (λ y. Chains (to (take y row)) (length (take y row)) s (take s last) (take y prior) (length (take y row))) en c))

-- a chain cut from longer rows, for as many piers as the plan has
pub record ChainCut (to : ℕ → ℕ) (n n_piers : ℕ) (last prior : List ℕ) : Type 0 where
  pub last_long : length last ≡ n_piers
  pub prior_long : length prior ≡ n
  pub chains : Chains to n n_piers last prior n
  pub falls : Falls prior
  pub within : (s : ℕ) → s < length last → get_or last s 0 ≤ length prior

pub chain_cut : {A : Type 0} (to : List A → ℕ → ℕ) (row : List A) (last prior : List ℕ) (m s n k x : ℕ) → m ≡ n → s ≡ k → k ≡ x →
    m ≤ length row → m ≤ length prior → s ≤ length last →
    Chains (to (take m row)) (length (take m row)) s (take s last) (take m prior) (length (take m row)) →
    ChainCut (to (take n row)) (length (take n row)) x (take k last) (take n prior)
chain_cut to row last prior m s n k x en ek ex hr hp hl c =
    let cut = chains_cut to row last prior m s n k x en ek ex c in
    let long_last : length (take k last) ≡ x = simp length-take (omega arith) in
    let long_prior : length (take n prior) ≡ length (take n row) = simp length-take (omega arith) in
    record {
      last_long = long_last;
      prior_long = long_prior;
      chains = cut;
      falls = chain_falls (to (take n row)) cut long_prior;
      within = chain_within (to (take n row)) cut long_prior long_last;
    }

-- Going along a chain: the places that are left.
use Rattle.std.proofs.Common.{◌≡◌, ℕ, zero, suc, ◌≤◌, List, [], ◌∷◌, length, get_or, sym, refl, ap, subst, le_refl, arith}
use Rattle.rounds.specs.Chains.{Falls, along, places}

-- as many steps as the first place is high are enough, since each place is lower than the one before
along_same : (prior : List ℕ) → Falls prior → (n m at : ℕ) → at ≤ n → at ≤ m → at ≤ length prior →
    along n prior at ≡ along m prior at
unfolding along
along_same prior falls zero zero zero h l w = refl
along_same prior falls zero (suc m) zero h l w = refl
along_same prior falls (suc n) zero zero h l w = refl
along_same prior falls (suc n) (suc m) zero h l w = refl
along_same prior falls zero m (suc i) h l w = absurd (omega arith)
along_same prior falls (suc n) zero (suc i) h l w = absurd (omega arith)
along_same prior falls (suc n) (suc m) (suc i) h l w =
    let f = falls i (omega arith) in
    ap (λ rest. i ∷ rest) (along_same prior falls n m (get_or prior i 0) (omega arith) (omega arith) (omega arith))

pub places_none : (prior : List ℕ) (at : ℕ) → at ≡ 0 → places prior at ≡ []
unfolding along
places_none prior zero e = refl
places_none prior (suc i) e = absurd (omega arith)

pub places_more : (prior : List ℕ) → Falls prior → (at i : ℕ) → suc i ≡ at → at ≤ length prior →
    places prior at ≡ i ∷ places prior (get_or prior i 0)
unfolding along
places_more prior falls zero i e w = absurd (omega arith)
places_more prior falls (suc j) i e w =
    let same : j ≡ i = omega arith in
    let f = falls j (omega arith) in
    subst (λ k. places prior (suc j) ≡ k ∷ places prior (get_or prior k 0)) same
    (ap (λ rest. j ∷ rest) (along_same prior falls j (get_or prior j 0) (get_or prior j 0) f (le_refl _) (omega arith)))

-- the first place that is left, and what is left behind it
pub places_first : (prior : List ℕ) → Falls prior → (at i : ℕ) (rest : List ℕ) → at ≤ length prior →
    places prior at ≡ i ∷ rest → (suc i ≡ at) × (rest ≡ places prior (get_or prior i 0))
places_first prior falls zero i rest w e = absurd (let none = places_none prior 0 refl in cc)
places_first prior falls (suc j) i rest w e =
    let more = places_more prior falls (suc j) j refl w in
    let same : j ≡ i = cc in
    let behind : rest ≡ places prior (get_or prior j 0) = cc in
    (ap suc (sym same), subst (λ k. rest ≡ places prior (get_or prior k 0)) same behind)

pub places_end : (prior : List ℕ) → Falls prior → (at : ℕ) → at ≤ length prior → places prior at ≡ [] → at ≡ 0
places_end prior falls zero w e = refl
places_end prior falls (suc j) w e = absurd (let more = places_more prior falls (suc j) j refl w in cc)

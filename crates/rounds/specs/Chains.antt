-- Chains of things by the pier that each belongs to.
use Rattle.std.specs.Prelude.{ℕ, zero, suc, ◌<◌, ◌≤◌, List, [], ◌∷◌, length, slice_index}

-- each one leads to one that stands before it
abbrev pub Falls : List ℕ → Type 0
Falls prior = (i : ℕ) → i < length prior → slice_index prior i ≤ i

-- at most n places along a chain, from one more than the place of the first of them, or 0, on
unfoldable pub along : ℕ → List ℕ → ℕ → List ℕ
along zero prior at = []
along (suc n) prior zero = []
along (suc n) prior (suc i) = i ∷ along n prior (slice_index prior i)

-- all of them
abbrev pub places : List ℕ → ℕ → List ℕ
places prior at = along at prior at

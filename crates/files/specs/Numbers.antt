-- Numbers in a file: four bytes each, the low one first; and the plan that a file begins with.
use Rattle.std.specs.Prelude.{ℕ, zero, suc, ◌+◌, ◌*◌, ◌/◌, min, cond, List, [], ◌∷◌, length, drop, nat_lt, slice_index}

-- the number that four bytes write down, from a place on
abbrev pub number_at : List ℕ → ℕ → ℕ
number_at bs at = slice_index bs at + slice_index bs (at + 1) * 256 + slice_index bs (at + 2) * 65536 + slice_index bs (at + 3) * 16777216

-- the first n numbers
unfoldable pub numbers_in : ℕ → List ℕ → List ℕ
numbers_in zero bs = []
numbers_in (suc n) bs = number_at bs 0 ∷ numbers_in n (drop 4 bs)

-- how many numbers the plan takes that a file begins with: as many as its three counts say
abbrev pub plan_size : List ℕ → ℕ
plan_size bs = cond (nat_lt (length bs) 12) 3 (3 + number_at bs 0 + 6 * number_at bs 4 + 3 * number_at bs 8)

-- the words of that plan, or all numbers that there are where the file is shorter
abbrev pub plan_words : List ℕ → List ℕ
plan_words bs = numbers_in (min (plan_size bs) (length bs / 4)) bs

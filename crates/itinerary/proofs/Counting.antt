-- The search back goes from leg to leg downwards, by level and then by place, so it names no leg twice and ends.
use Rattle.std.proofs.Common.{◌≡◌, ℕ, zero, suc, ◌+◌, ◌<◌, ◌≤◌, Bool, true, false, cond, ◌&&◌, ◌||◌, eqb, ltb, List, length, refl, subst, ⊎_elim, arith}
use Rattle.std.proofs.lemmas.Bool.{cases_eq}
use Rattle.std.proofs.lemmas.Bool.Decides.{nat_tests}
use Rattle.plan.specs.Legs.{Plan}
use Rattle.rounds.specs.Layout.{InRuns}
use Rattle.itinerary.specs.Tracing.{level_at, Prior}

-- ---- how many numbers below n pass a test
unfoldable pub count : (ℕ → Bool) → ℕ → ℕ
count f zero = 0
count f (suc n) = cond (f n) 1 0 + count f n

one_le : (a b : Bool) → (a ≡ true → b ≡ true) → cond a 1 0 ≤ cond b 1 0
one_le a b sub = grind (arith, nat_tests)

one_less : (a b : Bool) → a ≡ false → b ≡ true → cond a 1 0 < cond b 1 0
one_less a b e f = grind (arith, nat_tests)

-- a test that passes no more numbers counts no more
count_le : (f g : ℕ → Bool) → ((x : ℕ) → f x ≡ true → g x ≡ true) → (n : ℕ) → count f n ≤ count g n
unfolding count
count_le f g sub zero = omega arith
count_le f g sub (suc n) = omega (arith, count_le f g sub n, one_le (f n) (g n) (sub n))

-- and fewer, if it does not pass one that the other does
count_less : (f g : ℕ → Bool) → ((x : ℕ) → f x ≡ true → g x ≡ true) → (n x : ℕ) → x < n → f x ≡ false → g x ≡ true →
    count f n < count g n
unfolding count
count_less f g sub zero x h misses passes = absurd (omega arith)
count_less f g sub (suc n) x h misses passes =
    ⊎_elim
    (λ is. omega (
      arith,
      count_le f g sub n,
      one_less (f n) (g n) (subst (λ z. f z ≡ false) is misses) (subst (λ z. g z ≡ true) is passes),
    ))
    (λ ne. omega (arith, count_less f g sub n x (omega arith) misses passes, one_le (f n) (g n) (sub n)))
    (cases_eq x n)

count_all : (n : ℕ) → count (λ x. true) n ≡ n
unfolding count
count_all zero = refl
count_all (suc n) = omega (arith, count_all n)

-- ---- the legs that may still come: those of a lower level, and of the same level those that stand before it
pub lower : List ℕ → ℕ → ℕ → Bool
lower level i x = ltb (level_at level x) (level_at level i) || (eqb (level_at level x) (level_at level i) && ltb x i)

lower_trans : (level : List ℕ) (i x y : ℕ) → lower level i x ≡ true → lower level x y ≡ true → lower level i y ≡ true
unfolding lower
lower_trans level i x y e f = grind (arith, nat_tests)

lower_self : (level : List ℕ) (i : ℕ) → lower level i i ≡ false
unfolding lower
lower_self level i = grind (arith, nat_tests)

abbrev pub room : List ℕ → ℕ → ℕ → ℕ
room level n i = count (lower level i) n

pub room_less : (level : List ℕ) (n i x : ℕ) → x < n → lower level i x ≡ true → room level n x < room level n i
room_less level n i x h e =
    count_less (lower level x) (lower level i) (λ y f. lower_trans level i x y e f) n x h (lower_self level x) e

pub room_most : (level : List ℕ) (n i : ℕ) → i < n → room level n i < n
room_most level n i h =
    let less = count_less (lower level i) (λ x. true) (λ x e. refl) n i h (lower_self level i) refl in
    omega (arith, count_all n)

-- a leg that is stayed aboard for stands right behind the one before it, and one that is boarded has a level more
pub prior_lower : (p : Plan) (level : List ℕ) (i x : ℕ) → InRuns p.legs → i < length p.legs → x < length p.legs →
    Prior p level i x → lower level i x ≡ true
unfolding lower
prior_lower p level i x runs h l e = let next = runs i x h l in grind (arith, nat_tests)

-- The check of a plan: which refusal comes first.
use Rattle.std.specs.Prelude.{◌≡◌, ◌<◌, ℕ, zero, suc, Bool, true, cond, not, ◌&&◌, List, length, is_ok, Ok, Err, Result, nat_le, nat_lt, slice_index}
use Rattle.plan.specs.declared.refusal.Part.TheVariants.{Piers, Legs, Walks}
use Rattle.plan.specs.declared.refusal.Refusal.{Refusal}
use Rattle.plan.specs.declared.refusal.Refusal.TheVariants.{Count, Short, BadLeg, BadWalk, BadChange}
use Rattle.plan.specs.declared.counts.Counts.{Counts}
use Rattle.plan.specs.Legs.{Plan, leg, walk, change_at, piers, same_name, leg_within, walk_within, time_bound}
use Rattle.plan.specs.Words.{plan_in, plan_end}

-- how many piers, legs and walks a plan may have
abbrev pub most_piers : ℕ
most_piers = 64

abbrev pub most_legs : ℕ
most_legs = 1024

abbrev pub most_walks : ℕ
most_walks = 256

-- the counts, or why there are none
abbrev pub counts_checked : List ℕ → Result Counts Refusal
counts_checked xs =
    cond (nat_lt (length xs) 3) (Err Short)
    (cond (nat_lt most_piers (slice_index xs 0)) (Err (Count Piers))
    (cond (nat_lt most_legs (slice_index xs 1)) (Err (Count Legs))
    (cond (nat_lt most_walks (slice_index xs 2)) (Err (Count Walks))
    (cond (nat_lt (length xs) (plan_end xs)) (Err Short)
    (Ok (record { piers = slice_index xs 0; legs = slice_index xs 1; walks = slice_index xs 2 }))))))

-- one check after another: the first refusal is told
abbrev pub then : {A B : Type 0} → Result A Refusal → (A → Result B Refusal) → Result B Refusal
then (Err e) k = Err e
then (Ok a) k = k a

-- a test holds of every number below n
unfoldable pub all_below : (ℕ → Bool) → ℕ → Bool
all_below f zero = true
all_below f (suc n) = all_below f n && f n

-- the first number below n of which a test does not hold, as a refusal
unfoldable pub first_not : (ℕ → Bool) → (ℕ → Refusal) → ℕ → Result Unit Refusal
first_not f e zero = Ok tt
first_not f e (suc n) = then (first_not f e n) (λ _. cond (f n) (Ok tt) (Err (e n)))

-- what is asked answers as f does, of every number below n
abbrev pub AnswersAs : {A : Type 0} → (ℕ → A → Type 0) → (ℕ → A) → ℕ → Type 0
AnswersAs answers f n = (k : ℕ) (a : _) → k < n → answers k a → a ≡ f k

-- no earlier leg has the run and number of the leg i
abbrev pub is_new : Plan → ℕ → Bool
is_new p i = all_below (λ j. not (same_name (leg p i) (leg p j))) i

abbrev pub fits : Plan → ℕ → Bool
fits p i = leg_within (piers p) (leg p i)

abbrev pub leg_ok : Plan → ℕ → Bool
leg_ok p i = fits p i && is_new p i

abbrev pub walk_ok : Plan → ℕ → Bool
walk_ok p j = walk_within (piers p) (walk p j)

abbrev pub change_ok : Plan → ℕ → Bool
change_ok p s = nat_lt (change_at p s) time_bound

abbrev pub legs_checked : Plan → Result Unit Refusal
legs_checked p = first_not (leg_ok p) BadLeg (length p.legs)

abbrev pub walks_checked : Plan → Result Unit Refusal
walks_checked p = first_not (walk_ok p) BadWalk (length p.walks)

abbrev pub changes_checked : Plan → Result Unit Refusal
changes_checked p = first_not (change_ok p) BadChange (piers p)

abbrev pub parts_checked : Plan → Result Unit Refusal
parts_checked p = then (legs_checked p) (λ _. then (walks_checked p) (λ _. changes_checked p))

-- the counts of a plan that may be used, or the first thing that is wrong with it
unfoldable pub plan_checked : List ℕ → Result Counts Refusal
plan_checked xs = then (counts_checked xs) (λ c. then (parts_checked (plan_in xs)) (λ _. Ok c))

-- the memory holds a sound plan, of whatever size
unfoldable pub sound_words : List ℕ → Bool
sound_words xs = nat_le (plan_end xs) (length xs) && is_ok (parts_checked (plan_in xs))

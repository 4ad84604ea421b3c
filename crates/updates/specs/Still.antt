-- Whether an itinerary still goes: a pier, a time, a count of legs, and then the run and the number of each.
use Rattle.std.specs.Prelude.{◌≡◌, ℕ, zero, suc, ◌+◌, ◌*◌, cond, ◌&&◌, ◌⊎◌, List, [], ◌∷◌, length, drop, Ok, Err, IsOkAnd, Result, codes, nat_le, slice_index}
use Rattle.plan.specs.declared.refusal.Refusal.{Refusal}
use Rattle.plan.specs.declared.refusal.Refusal.TheVariants.{BadItinerary}
use Rattle.plan.specs.Legs.{Plan}
use Rattle.plan.specs.Words.{plan_in}
use Rattle.plan.specs.Check.{most_legs, then, plan_checked}
use Rattle.plan.specs.declared.name.LegName.{LegName}
use Rattle.journey.specs.Checked.{GoneAlong}
use Rattle.updates.specs.declared.still.Word.{Word}
use Rattle.updates.specs.declared.still.Word.TheVariants.{Still, Gone}

-- every leg of it is in the plan, runs and follows the one before, and the first is reached from the pier at the time;
-- with no legs it goes
abbrev pub StillGoes : Plan → ℕ → ℕ → List LegName → Type 0
StillGoes p s t names = (names ≡ []) ⊎ GoneAlong p s t names

-- the names that pairs of numbers write down
unfoldable pub names_in : ℕ → List ℕ → List LegName
names_in zero xs = []
names_in (suc n) xs = record { run = slice_index xs 0; number = slice_index xs 1 } ∷ names_in n (drop 2 xs)

-- how many legs it says that it has: 0 where it is cut short before that
abbrev pub given_count : List ℕ → ℕ
given_count gs = slice_index gs 2

-- that many, if they are not too many and all there
abbrev pub given_checked : List ℕ → Result ℕ Refusal
given_checked gs =
    cond (nat_le (given_count gs) most_legs && nat_le (3 + 2 * given_count gs) (length gs))
    (Ok (given_count gs)) (Err (BadItinerary (given_count gs)))

-- a word that is true
abbrev pub Said : Word → Type 0 → Type 0
Said Still P = P
Said Gone P = P → ⊥

-- the word on an itinerary that has so many legs, or its refusal
abbrev pub WordedBy : Result ℕ Refusal → Plan → List ℕ → Result Word Refusal → Type 0
WordedBy (Err e) p gs r = r ≡ Err e
WordedBy (Ok n) p gs r =
    IsOkAnd r (λ w. Said w (StillGoes p (slice_index gs 0) (slice_index gs 1) (names_in n (drop 3 gs))))

-- the word on an itinerary, over lent memory: the plan may be refused, then the itinerary
abbrev pub Worded : List ℕ → List ℕ → Result Word Refusal → Type 0
Worded xs gs r = WordedBy (then (plan_checked xs) (λ _. given_checked gs)) (plan_in xs) gs r

-- how it is told
abbrev pub word_text : Word → List ℕ
word_text Still = codes "still"
word_text Gone = codes "gone"

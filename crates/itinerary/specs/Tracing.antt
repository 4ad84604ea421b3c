-- How the itinerary is found: from the last leg back, each time the leg that comes first of those that may stand there.
use Rattle.std.specs.Prelude.{◌≡◌, ℕ, ◌+◌, ◌<◌, ◌≤◌, Bool, true, false, cond, ◌&&◌, ◌||◌, ◌⊎◌, List, map, length, drop, Some, None, Option, ◌==◌, nat_lt, slice_index}
use Rattle.plan.specs.declared.leg.Leg.{Leg}
use Rattle.plan.specs.Legs.{Plan, leg}
use Rattle.journey.specs.declared.question.Question.{Question}
use Rattle.journey.specs.Steps.{stays, boards, begins}
use Rattle.journey.specs.Journeys.{Ends}
use Rattle.journey.specs.Aboard.{Aboard}
use Rattle.marks.specs.declared.mark.Mark.{Mark}
use Rattle.marks.specs.Marks.{Among}
use Rattle.rounds.specs.Levels.{Levels}
use Rattle.rounds.specs.Answers.{Answer}
use Rattle.itinerary.specs.Order.{before}

-- the least boats of a journey that ends with the leg at a place, by a row of levels
abbrev pub level_at : List ℕ → ℕ → ℕ
level_at level i = slice_index level i

-- the leg at x may be the one before the leg at i: one stays aboard with the same boats, or goes aboard with one more
abbrev pub prior : Plan → List ℕ → ℕ → ℕ → Bool
prior p level i x =
    (level_at level x == level_at level i && stays (leg p x) (leg p i))
    || (nat_lt 0 (level_at level x) && (level_at level i == level_at level x + 1 && boards p (leg p x) (leg p i)))

abbrev pub Prior : Plan → List ℕ → ℕ → ℕ → Type 0
Prior p level i x = prior p level i x ≡ true

-- the leg at i may be the first of the journey
abbrev pub starts : Plan → Question → List ℕ → ℕ → Bool
starts p q level i = level_at level i == 1 && begins p q.from q.time (leg p i)

-- the leg at x may be the last of a journey that reaches the mark
pub record Final (p : Plan) (q : Question) (level : List ℕ) (m : Mark) (x : ℕ) : Type 0 where
  pub some : 0 < level_at level x
  pub boats : level_at level x ≡ m.boats
  pub ends : Ends p q.to (leg p x).to (leg p x).comes m.arrival

-- the leg at x comes first of the good ones below n
pub record Choice (p : Plan) (Good : ℕ → Type 0) (n x : ℕ) : Type 0 where
  pub within : x < n
  pub good : Good x
  pub first : (y : ℕ) → y < n → Good y → (leg p y ≡ leg p x) ⊎ (before (leg p x) (leg p y) ≡ true)

-- the one that comes first, or that there is none
abbrev pub Chosen : Plan → (ℕ → Type 0) → ℕ → Option ℕ → Type 0
Chosen p Good n None = (y : ℕ) → y < n → Good y → ⊥
Chosen p Good n (Some x) = Choice p Good n x

-- the mark is one of the answer, and the levels are those of the question
pub record Marked (p : Plan) (q : Question) (level : List ℕ) (m : Mark) : Type 0 where
  pub most : ℕ
  pub marks : List Mark
  pub levels : Levels (Aboard p q.from q.time) p most level
  pub answer : Answer p most q marks
  pub among : Among m marks

-- of a place and one that there may be already, the one whose leg comes first
abbrev pub pick : Plan → Option ℕ → ℕ → Option ℕ
pick p None x = Some x
pick p (Some y) x = cond (before (leg p x) (leg p y)) (Some x) (Some y)

-- of two places that there may be the one whose leg comes first
abbrev pub first_of : Plan → Option ℕ → Option ℕ → Option ℕ
first_of p o None = o
first_of p o (Some x) = pick p o x

abbrev pub Within : Option ℕ → ℕ → Type 0
Within None n = Unit
Within (Some x) n = x < n

-- what the search back from the leg at i says: the journey begins with it, or which leg is before it
abbrev pub Stepped : Plan → Question → List ℕ → ℕ → Option ℕ → Type 0
Stepped p q level i None = (starts p q level i ≡ true) ⊎ ((y : ℕ) → y < length p.legs → Prior p level i y → ⊥)
Stepped p q level i (Some x) = (starts p q level i ≡ false) × Choice p (Prior p level i) (length p.legs) x

-- the legs whose places stand in the row from a place on
abbrev pub legs_from : Plan → ℕ → List ℕ → List Leg
legs_from p at row = map (leg p) (drop at row)

-- from a place on there stand places of n legs
abbrev pub Places : ℕ → ℕ → List ℕ → Type 0
Places n at row = (c : ℕ) → at ≤ c → c < length row → slice_index row c < n

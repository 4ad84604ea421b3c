-- Journeys in a file: from, time, to and count of legs, then run and number of each, four bytes a number; and how the
-- check of one is told.
use Rattle.std.specs.Prelude.{◌≡◌, ℕ, zero, suc, ◌+◌, ◌*◌, ◌<◌, ◌≤◌, cond, List, [], ◌∷◌, length, drop, Some, None, Ok, Err, vec_items, Option, Result, nat_lt}
use Rattle.files.specs.Numbers.{number_at}
use Rattle.plan.specs.declared.name.LegName.{LegName}
use Rattle.journey.specs.declared.checking.Broken.{Broken}
use Rattle.journey.specs.Checked.{broken_text}
use Rattle.marks.specs.declared.mark.Mark.{Mark}
use Rattle.marks.specs.Texts.{mark_text}
use Rattle.inspect.specs.declared.reading.Told.{Told}

-- the names of the first n legs: run and number of each
unfoldable pub names_in : ℕ → List ℕ → List LegName
names_in zero bs = []
names_in (suc n) bs = record { run = number_at bs 0; number = number_at bs 4 } ∷ names_in n (drop 8 bs)

-- how many bytes the journey takes that begins here: four numbers where there are no more
abbrev pub told_size : List ℕ → ℕ
told_size bs = cond (nat_lt (length bs) 16) 16 (16 + 8 * number_at bs 12)

-- the journey that these bytes begin with
pub record ToldIn (bs : List ℕ) (j : Told) : Type 0 where
  pub whole : told_size bs ≤ length bs
  pub from : j.question.from ≡ number_at bs 0
  pub time : j.question.time ≡ number_at bs 4
  pub to : j.question.to ≡ number_at bs 8
  pub legs : vec_items j.legs ≡ names_in (number_at bs 12) (drop 16 bs)
  pub in_time : j.question.time < 4294967296

-- or it is cut short
abbrev pub Read : List ℕ → Option Told → Type 0
Read bs None = length bs < told_size bs
Read bs (Some j) = ToldIn bs j

-- `45/2`, or `broken at 1`
abbrev pub checked_text : Result Mark Broken → List ℕ
checked_text (Ok m) = mark_text m
checked_text (Err b) = broken_text b

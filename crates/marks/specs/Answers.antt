-- The answer to a question, for any relation that says which marks are reached.
use Rattle.std.specs.Prelude.{◌≡◌, ℕ, ◌≤◌, true, cond, List, [], ◌∷◌, nat_le}
use Rattle.marks.specs.declared.mark.Mark.{Mark}
use Rattle.marks.specs.Marks.{Among, Falling, covered}

-- with at most so many boats these marks are the ones worth telling: they fall, each is reached, and each mark that
-- is reached has one among them that is no worse
pub record AnswerOf (R : Mark → Type 0) (most : ℕ) (ms : List Mark) : Type 0 where
  pub falling : Falling ms
  pub reached : (m : Mark) → Among m ms → R m
  pub few : (m : Mark) → Among m ms → m.boats ≤ most
  pub all : (m : Mark) → R m → m.boats ≤ most → covered m ms ≡ true

-- the marks of at most so many boats
abbrev pub up_to : ℕ → List Mark → List Mark
up_to n [] = []
up_to n (m ∷ ms) = cond (nat_le m.boats n) (m ∷ up_to n ms) (up_to n ms)

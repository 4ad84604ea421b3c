-- What holds of marks, and of answers whatever is reached.
use Rattle.std.specs.Prelude.{◌≡◌, ℕ, ◌≤◌, true, List, ◌++◌}
use Rattle.marks.specs.declared.mark.Mark.{Mark}
use Rattle.marks.specs.Marks.{no_worse}
use Rattle.marks.specs.Answers.{AnswerOf, up_to}

-- to be no worse is a partial order: of a mark itself, from mark to mark, and both ways of one mark alone
abbrev pub NoWorseOrder : Type 0
NoWorseOrder =
    ((m : Mark) → no_worse m m ≡ true)
    × ((m n o : Mark) → no_worse m n ≡ true → no_worse n o ≡ true → no_worse m o ≡ true)
    × ((m n : Mark) → no_worse m n ≡ true → no_worse n m ≡ true → m ≡ n)

-- a question has one answer
abbrev pub OneAnswer : (Mark → Type 0) → Type 0
OneAnswer R = (most : ℕ) (ms ns : List Mark) → AnswerOf R most ms → AnswerOf R most ns → ms ≡ ns

-- the answer for fewer boats is the marks of the answer that have no more, and they are its beginning
abbrev pub FewerBoats : (Mark → Type 0) → Type 0
FewerBoats R =
    (few most : ℕ) (ms : List Mark) → few ≤ most → AnswerOf R most ms →
    AnswerOf R few (up_to few ms) × ((rest : List Mark) × (ms ≡ up_to few ms ++ rest))

-- What C is told of the word on an itinerary: one number, and another that is lent.
use Rattle.std.specs.Prelude.{◌≡◌, List, ℕ, Ok, Err, Result}
use Rattle.plan.specs.declared.refusal.Refusal.{Refusal}
use Rattle.updates.specs.declared.still.Word.{Word}
use Rattle.updates.specs.declared.still.Word.TheVariants.{Still, Gone}
use Rattle.updates.specs.Still.{Worded}
use Rattle.cabi.specs.Codes.{refusal_code}

-- 0 where there is a word
abbrev pub word_code : Result Word Refusal → ℕ
word_code (Ok w) = 0
word_code (Err e) = refusal_code e

-- the lent number afterwards: 1 where it still goes, 0 where it is gone, and what it was where it is refused
abbrev pub word_left : Result Word Refusal → ℕ → ℕ
word_left (Ok Still) held = 1
word_left (Ok Gone) held = 0
word_left (Err e) held = held

-- n is the code of the true word on the itinerary or of its refusal, and the lent number says the word
pub record WordTold (xs given : List ℕ) (held n held₁ : ℕ) : Type 0 where
  pub word : Result Word Refusal
  pub worded : Worded xs given word
  pub code : n ≡ word_code word
  pub left : held₁ ≡ word_left word held

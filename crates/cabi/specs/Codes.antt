-- What C is told of a reply: one number.
use Rattle.std.specs.Prelude.{◌≡◌, ℕ, ◌+◌, ◌*◌, min, Ok, Err}
use Rattle.plan.specs.declared.refusal.Refusal.{Refusal}
use Rattle.plan.specs.Refusals.{number_of, place_of}
use Rattle.rounds.specs.Entry.{Reply}

-- The refusal's number stands above the forty low bits and its place in them. A place that does not fit there is told as
-- the highest that does, so that the number can always be read back.
abbrev pub refusal_code : Refusal → ℕ
refusal_code e = number_of e * 1099511627776 + min (place_of e) 1099511627775

-- 0 where it is done
abbrev pub code_of : Reply → ℕ
code_of (Ok n) = 0
code_of (Err e) = refusal_code e

-- the number is the code of a reply of which this holds
pub record Coded (R : Reply → Type 0) (n : ℕ) : Type 0 where
  pub reply : Reply
  pub holds : R reply
  pub code : n ≡ code_of reply

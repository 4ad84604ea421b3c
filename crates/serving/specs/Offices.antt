-- The plan that an office keeps.
use Rattle.std.specs.Prelude.{◌≡◌, ℕ, true, List, is_ok, Ok, Err, Result}
use Rattle.plan.specs.declared.refusal.Refusal.{Refusal}
use Rattle.plan.specs.Legs.{Plan}
use Rattle.plan.specs.Words.{plan_in}
use Rattle.plan.specs.Check.{plan_checked}
use Rattle.serving.specs.declared.office.Office.{Office}

-- its words, with room for any plan behind them
abbrev pub words_kept : Office → List ℕ
words_kept o = o.words

abbrev pub plan_kept : Office → Plan
plan_kept o = plan_in (words_kept o)

-- an office is opened with the plan that words hold, if that may be used, or the first refusal is told
pub record Open (xs : List ℕ) (o : Office) : Type 0 where
  pub usable : is_ok (plan_checked xs) ≡ true
  pub plan : plan_kept o ≡ plan_in xs

abbrev pub Opened : List ℕ → Result Office Refusal → Type 0
Opened xs (Ok o) = Open xs o
Opened xs (Err e) = plan_checked xs ≡ Err e

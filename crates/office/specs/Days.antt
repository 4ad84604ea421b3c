-- A file from its first byte to its last: the responses are those to the requests that it holds, by the plan that it holds.
use Rattle.std.specs.Prelude.{◌≡◌, ℕ, ◌*◌, List, length, Ok, Err, vec_items, Result}
use Rattle.files.specs.Numbers.{plan_words}
use Rattle.plan.specs.declared.refusal.Refusal.{Refusal}
use Rattle.plan.specs.Check.{plan_checked}
use Rattle.serving.specs.Runs.{ServedFrom}
use Rattle.office.specs.declared.day.Day.{Day}
use Rattle.office.specs.declared.reading.Requests.{Requests}
use Rattle.office.specs.Requests.{Read}

-- the requests stand behind the plan, up to the file's end or a fault, and each has the response that is right
pub record DayOf (bs : List ℕ) (d : Day) : Type 0 where
  pub requests : Requests
  pub read : Read bs (4 * length (plan_words bs)) requests
  pub served : ServedFrom (plan_words bs) (vec_items requests.all) (Ok d.responses)
  pub fault : d.fault ≡ requests.fault

abbrev pub ServedFile : List ℕ → Result Day Refusal → Type 0
ServedFile bs (Err e) = plan_checked (plan_words bs) ≡ Err e
ServedFile bs (Ok d) = DayOf bs d

-- Many questions about one plan, each answered in a row of its own.
use Rattle.std.specs.Prelude.{◌≡◌, ℕ, ◌+◌, ◌*◌, ◌/◌, ◌<◌, ◌≤◌, List, length, Ok, Err, Result}
use Rattle.std.specs.List.{between}
use Rattle.plan.specs.declared.counts.Counts.{Counts}
use Rattle.plan.specs.declared.refusal.Refusal.{Refusal}
use Rattle.plan.specs.Legs.{Plan, piers}
use Rattle.plan.specs.Refusals.{number_of}
use Rattle.rounds.specs.Query.{query_checked}
use Rattle.rounds.specs.Entry.{Reply, AnsweredBy}

-- the question at i has four numbers, its row nineteen: the count, and two for each of nine marks
abbrev pub question_at : ℕ → List ℕ → List ℕ
question_at i qs = between (4 * i) (4 * i + 4) qs

abbrev pub row_at : ℕ → List ℕ → List ℕ
row_at i out = between (19 * i) (19 * i + 19) out

-- each of the first n questions that has a row is answered in it
abbrev pub EachAnswered : Plan → List ℕ → List ℕ → List ℕ → ℕ → Type 0
EachAnswered p qs out out₁ n = (i : ℕ) → i < n → 19 * i + 19 ≤ length out →
    (r : Reply) × AnsweredBy (query_checked (piers p) (question_at i qs)) p (row_at i out) r (row_at i out₁)

-- the number of the refusal where the plan may not be used, and nothing is written; else 0, and each is answered
abbrev pub Raced : Result Counts Refusal → Plan → List ℕ → List ℕ → ℕ → List ℕ → Type 0
Raced (Err e) p qs out r out₁ = (r ≡ number_of e) × (out₁ ≡ out)
Raced (Ok n) p qs out r out₁ = (r ≡ 0) × EachAnswered p qs out out₁ (length qs / 4)

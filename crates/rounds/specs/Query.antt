-- A question in numbers: from, time, to, and the most boats; and why one is refused.
use Rattle.std.specs.Prelude.{ℕ, cond, List, length, Ok, Err, Result, nat_lt, slice_index}
use Rattle.plan.specs.declared.refusal.Refusal.{Refusal}
use Rattle.plan.specs.declared.refusal.Refusal.TheVariants.{BadQuestion}
use Rattle.plan.specs.Legs.{time_bound}
use Rattle.rounds.specs.declared.query.Query.{Query}

-- the most boats that a question may allow
abbrev pub most_boats : ℕ
most_boats = 8

-- the question that the numbers ask of a plan with so many piers, or the first of them that is wrong
abbrev pub query_checked : ℕ → List ℕ → Result Query Refusal
query_checked piers xs =
    cond (nat_lt (length xs) 4) (Err (BadQuestion (length xs)))
    (cond (nat_lt (slice_index xs 0) piers)
    (cond (nat_lt (slice_index xs 1) time_bound)
    (cond (nat_lt (slice_index xs 2) piers)
    (cond (nat_lt most_boats (slice_index xs 3)) (Err (BadQuestion 3))
    (Ok (record { question = record { from = slice_index xs 0; time = slice_index xs 1; to = slice_index xs 2 }; most = slice_index xs 3 })))
    (Err (BadQuestion 2))) (Err (BadQuestion 1))) (Err (BadQuestion 0)))

use Rattle.std.proofs.Common.{◌≡◌, vec_items}
use Rattle.serving.specs.Offices.{plan_kept}
use Rattle.serving.specs.Runs.{plan_at}
use Rattle.serving.proofs.Runs.{ServedTo}
use Rattle.serving.proofs.office.Office.serve.Given as goal

-- the plan is that of this moment, and what was said so far is right
abbrev pub invariant-loop-request : goal.invariant-loop-request
invariant-loop-request l =
    (plan_kept l.self ≡ plan_at (plan_kept l.initial.self) l.requests l.request-index)
    × ServedTo (plan_kept l.initial.self) l.requests l.request-index (vec_items l.responses)

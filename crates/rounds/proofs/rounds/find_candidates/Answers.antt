use Rattle.std.proofs.Common.{sym, refl, arith}
use Rattle.plan.specs.Legs.{leg}
use Rattle.rounds.specs.Rows.{plan_of}
use Rattle.std.proofs.lemmas.Bool.{both_ways}
use Rattle.rounds.proofs.Thinning.{waiting_more, waiting_behind, waiting_out, waiting_as}
use Rattle.rounds.proofs.rounds.find_candidates.Goals as goal
use Rattle.rounds.proofs.rounds.find_candidates.Goals.{then-a-time+then-runs, else-a-time}
use Rattle.rounds.proofs.rounds.find_candidates.Goals.{else-a-time-via-then-a-time+else-runs, else-a-time-via-else-a-time}

pub loop-i-preserved : goal.loop-i-preserved
loop-i-preserved c =
    let (few, waiting) = c.loop-i.invariant in
    let i = c.loop-i.i in
    let p = plan_of c.args.layout in
    elim c.if-a-time.branch [
      | then-a-time+then-runs w ↦ (
        omega (arith, w.left-is),
        waiting_as refl w.left-is
            (waiting_more i (omega arith) refl (sym w.if-runs.ensures) waiting),
      )
      | else-a-time w ↦ (
        omega (arith, w.left-is),
        waiting_as refl w.left-is (waiting_out i (leg p i) refl
            (elim w.else-a-time.branch [
              | else-a-time-via-then-a-time+else-runs v ↦ (λ r l. both_ways _ (sym v.if-runs.ensures) r)
              | else-a-time-via-else-a-time v ↦ (λ r l. omega (arith, v.if-a-time.false))
            ])
            (waiting_behind i waiting)),
      )
    ]

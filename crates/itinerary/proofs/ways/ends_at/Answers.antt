use Rattle.std.proofs.Common.{◌≡◌, refl, ap, ⊎_elim, arith}
use Rattle.std.proofs.lemmas.Bool.{false≢true}
use Rattle.plan.specs.declared.walk.Walk.{Walk}
use Rattle.rounds.specs.Rows.{plan_of}
use Rattle.rounds.specs.Layout.{walk_from}
use Rattle.rounds.proofs.Linking.{chain_step, chain_end}
use Rattle.itinerary.proofs.Chained.{missed_more, missed_ends, found_ends, at_once_ends}
use Rattle.itinerary.proofs.ways.ends_at.Goals as goal
use Rattle.itinerary.proofs.ways.ends_at.Goals.{else-w-at-via-then-w-at+else-a-w, else-w-at-via-else-w-at}

pub returns-then-a-at-2 : goal.returns-then-a-at-2
returns-then-a-at-2 c = (λ _. at_once_ends (omega arith) (omega arith), λ _. refl)

pub walk-w-requires : goal.walk-w-requires
walk-w-requires c =
    let (past, left, m) = c.loop-j.invariant in
    let laid = c.args.layout.laid in
    let (here, rest) = chain_step (walk_from c.args.layout.walks.now) laid.chained laid.link_long m.here left c.in-Some.ensures.steps in
    omega (arith, m.here.within)

pub loop-j-preserved : goal.loop-j-preserved
loop-j-preserved c =
    let (past, left, m) = c.loop-j.invariant in
    let laid = c.args.layout.laid in
    let (here, rest) = chain_step (walk_from c.args.layout.walks.now) laid.chained laid.link_long m.here left c.in-Some.ensures.steps in
    let is = c.walk-w.ensures.value in
    let to = ap (λ (z : Walk). z.to) is in
    let takes = ap (λ (z : Walk). z.takes) is in (
      _,
      rest,
      missed_more laid.chained c.in-Some.j here m (λ e.
          elim c.else-w-at.branch [
            | else-w-at-via-then-w-at+else-a-w v ↦ omega (arith, e.1, v.if-a-w.false)
            | else-w-at-via-else-w-at v ↦ v.if-w-at.false (omega (arith, e.0))
          ]),
    )

pub returns-then-a-w : goal.returns-then-a-w
returns-then-a-w c =
    let (past, left, m) = c.loop-j.invariant in
    let laid = c.args.layout.laid in
    let (here, rest) = chain_step (walk_from c.args.layout.walks.now) laid.chained laid.link_long m.here left c.in-Some.ensures.steps in
    let is = c.walk-w.ensures.value in
    let to = ap (λ (z : Walk). z.to) is in
    let takes = ap (λ (z : Walk). z.takes) is in (
      λ _. found_ends {p = plan_of c.args.layout} c.in-Some.j (omega (arith, m.here.within)) (m.here.of c.in-Some.j here)
          (omega arith, omega arith),
      λ _. refl,
    )

pub returns : goal.returns
returns c =
    let (past, left, m) = c.loop-j.invariant in
    let laid = c.args.layout.laid in
    let done = chain_end (walk_from c.args.layout.walks.now) laid.chained laid.link_long m.here left c.in-None.ensures.steps.0 in
    let not = λ (same : (c.args.a.to ≡ c.args.at.pier) × (c.args.a.comes ≡ c.args.at.time)).
    ⊎_elim (λ w. w.1 same.1) (λ w. w same.0) c.else-a-at.either in (
      λ e. absurd (false≢true e),
      λ e. absurd (missed_ends {p = plan_of c.args.layout} done not m e),
    )

use Rattle.std.proofs.Common.{◌≡◌, ℕ, suc, ◌+◌, ◌<◌, ◌≤◌, false, length, get_or, replicate, refl, ap, ◌∙◌, subst, le_refl, arith}
use Rattle.std.proofs.lemmas.Bool.{both_ways}
use Rattle.plan.specs.Legs.{leg, runs}
use Rattle.marks.specs.Answers.{AnswerOf}
use Rattle.marks.specs.Fronts.{marks_of}
use Rattle.rounds.specs.Rows.{plan_of, places_left}
use Rattle.rounds.specs.Levels.{AboardFrom, Levels}
use Rattle.rounds.specs.Answers.{There}
use Rattle.rounds.specs.Times.{never, Lowered}
use Rattle.rounds.specs.Layout.{walk_from}
use Rattle.rounds.proofs.Linking.{chain_next, chain_step, chain_end}
use Rattle.rounds.proofs.Cells.{gone_none, gone_more}
use Rattle.rounds.proofs.Passes.{laid_fits, lifted_none}
use Rattle.rounds.proofs.Thinning.{waiting_level, next_end, passed_none}
use Rattle.rounds.proofs.Nesting.{blank_at, rounded_none, scanned_none, turn_keep, turn_late, turn_more}
use Rattle.rounds.proofs.Nesting.{rounded_more, rounded_same, rounded_copied, rounded_marks, levels_last, answer_last}
use Rattle.rounds.proofs.rounds.go_rounds_until.Goals as goal
use Rattle.rounds.proofs.rounds.go_rounds_until.Goals.{then-soon-lt-NEVER, else-soon-lt-NEVER}

pub rounds-init : goal.rounds-init
rounds-init c =
    let blank : (i : ℕ) → get_or c.fill.new.self i 0 ≡ 0 =
    λ i. ap (λ l. get_or l i 0) (c.fill.ensures.after (λ y e. e)) ∙ blank_at _ i in
    rounded_none (length c.args.layout.change.now) c.args.layout.laid blank
    (c.fill-2.ensures.after (λ y e. e) ∙ ap (λ m. replicate m never) c.requires.ready)
    (c.fill-3.ensures.after (λ y e. e) ∙ ap (λ m. replicate m never) c.requires.later)
    (c.fill-4.ensures.after (λ y e. e) ∙ ap (λ m. replicate m never) c.requires.arrived)
    (waiting_level (λ j h. blank j) c.find_candidates-left.ensures.waiting)
    c.find_candidates-left.ensures.few c.set_off-front.ensures

pub legs-init : goal.legs-init
legs-init c =
    let r = c.rounds.invariant in
    let fits = laid_fits c.rounds.ready c.args.layout.laid (omega arith) in
    passed_none r.waiting c.requires.sown r.levels r.readies fits (lifted_none r.levels) (scanned_none r)

pub legs-preserved-then-not-opens : goal.legs-preserved-then-not-opens
legs-preserved-then-not-opens c =
    let r = c.rounds.invariant in
    turn_keep c.args.layout.laid c.requires.sown (omega arith) r c.legs-test.true c.candidate-i.ensures.is
    c.legs.invariant
    (λ o. both_ways false refl (c.if-not-opens.ensures.1 o)) (omega (arith, r.few))

pub legs-preserved-then-a-arrived : goal.legs-preserved-then-a-arrived
legs-preserved-then-a-arrived c =
    turn_late c.args.layout.laid c.requires.sown (omega arith) c.rounds.invariant c.legs-test.true
    c.candidate-i.ensures.is c.legs.invariant (c.if-not-opens.ensures.0 refl) (omega (arith, c.candidate-i.ensures.below))
    c.leg-a.result c.leg-a.ensures.value (omega arith) c.if-a-arrived.true

pub opens-requires-clause-going : goal.opens-requires-clause-going
opens-requires-clause-going c =
    let same = c.candidate-i.ensures.is ∙ c.legs.invariant.same c.legs.c (le_refl _) (omega arith) in
    ap (λ m. runs (leg (plan_of c.args.layout) m)) same ∙ c.rounds.invariant.waiting.going c.legs.c (omega arith)

pub walks-init : goal.walks-init
walks-init c =
    let chain = c.args.layout.laid.chained in
    let begun = ap places_left c.into_iter-j-iterator.ensures.into_iter_gives ∙ c.walks_from-j-items.ensures in
    (_, begun, chain.first_at c.leg-a.result.to (omega arith), refl, λ d h. gone_none chain, gone_none chain)

pub walk-w-requires : goal.walk-w-requires
walk-w-requires c =
    let (at, left, ok, long, cells, goal) = c.walks.invariant in
    let laid = c.args.layout.laid in
    let (here, rest) = chain_step (walk_from c.args.layout.walks.now) laid.chained laid.link_long ok left c.in-Some.ensures.steps in
    omega (arith, ok.within)

pub walks-preserved : goal.walks-preserved
walks-preserved c =
    let (at, left, ok, long, cells, goal) = c.walks.invariant in
    let laid = c.args.layout.laid in
    let chain = laid.chained in
    let (here, rest) = chain_step (walk_from c.args.layout.walks.now) chain laid.link_long ok left c.in-Some.ensures.steps in
    let v = c.in-Some.j in
    let w = c.walk-w.result in
    let is = c.walk-w.ensures.value in
    let low = c.lower-in-walks.ensures in (
      _,
      rest,
      chain_next (walk_from c.args.layout.walks.now) chain v here ok,
      low.long ∙ long,
      λ d h. gone_more chain v w is here ok (cells d h) (low.cells d (omega arith)),
      gone_more chain v w is here ok goal c.nearer-soon-in-walks.ensures,
    )

pub legs-preserved : goal.legs-preserved
legs-preserved c =
    let (at, left, ok, long, cells, goal) = c.walks.invariant in
    let laid = c.args.layout.laid in
    let done = chain_end (walk_from c.args.layout.walks.now) laid.chained laid.link_long ok left c.in-None.ensures.steps.0 in
    let low =
    subst (λ m. Lowered c.legs.later c.leg-a.result.to (c.leg-a.result.comes + m) c.lower.new.row)
    c.change_at.ensures.value c.lower.ensures in
    turn_more c.args.layout.laid c.requires.sown (omega arith) c.rounds.invariant c.legs-test.true
    c.candidate-i.ensures.is c.legs.invariant (c.if-not-opens.ensures.0 refl) (omega (arith, c.candidate-i.ensures.below))
    c.leg-a.result c.leg-a.ensures.value (omega arith)
    low c.nearer-soon.ensures done long cells goal

pub rounds-preserved : goal.rounds-preserved
rounds-preserved c =
    let r = c.rounds.invariant in
    let n = length c.args.layout.legs.now in
    let end = next_end c.rounds.waits c.rounds.left n c.legs.c (omega arith) in
    let few : c.legs.still ≤ c.rounds.left = omega (arith, c.legs.invariant.few) in
    elim c.if-soon-lt-NEVER.branch [
      | then-soon-lt-NEVER w ↦
          rounded_copied c.copy_from_slice.ensures.after
          (rounded_more c.args.layout.laid c.requires.sown (omega arith) (omega arith) r c.legs.invariant end few (omega arith)
          w.if-soon-lt-NEVER.true (ap marks_of w.front-is ∙ w.with-front.ensures))
      | else-soon-lt-NEVER w ↦
          rounded_copied c.copy_from_slice.ensures.after
          (rounded_marks (ap marks_of w.front-is)
          (rounded_same c.args.layout.laid c.requires.sown (omega arith) (omega arith) r c.legs.invariant end few
          w.if-soon-lt-NEVER.false))
    ]

pub returns-after-rounds : goal.returns-after-rounds
returns-after-rounds c =
    let r = c.rounds.invariant in
    let p = plan_of c.args.layout in
    let seed = c.args.seed.now in
    let done : c.rounds.k ≡ c.args.most = omega arith in
    record {
      levels = subst (λ k. Levels (AboardFrom p seed) p k c.rounds.level) done r.levels;
      marks =
          subst (λ k. AnswerOf (There p seed c.args.to c.args.on_foot) k (marks_of c.rounds.front))
          done r.answer;
    }

pub returns-then-k-last : goal.returns-then-k-last
returns-then-k-last c =
    let r = c.rounds.invariant in
    let n = length c.args.layout.legs.now in
    let low : (i : ℕ) → i < n → get_or c.args.seed.now i 0 ≤ suc c.rounds.k =
    λ i h. omega (arith, c.requires.last i (omega arith), c.if-k-last.true) in
    let end = next_end c.rounds.waits c.rounds.left n c.legs.c (omega arith) in
    let few : c.legs.still ≤ c.rounds.left = omega (arith, c.legs.invariant.few) in
    let long : length c.rounds.ready ≡ length c.args.layout.change.now = omega arith in
    let same : length c.legs.later ≡ length c.rounds.ready = omega arith in
    let left : c.rounds.k ≤ c.args.most = omega arith in
    let none : c.legs.still ≡ c.legs.c = omega (arith, c.if-still-left.true) in
    record {
      levels = levels_last c.args.layout.laid c.requires.sown long same r c.legs.invariant end few none low left;
      marks = answer_last c.args.layout.laid c.requires.sown long same r c.legs.invariant end few none low left;
    }

use Rattle.std.proofs.Common.{length, replicate, refl, ap, ◌∙◌, subst, arith}
use Rattle.rounds.specs.Times.{never}
use Rattle.rounds.specs.Layout.{walk_from}
use Rattle.rounds.proofs.Linking.{chain_next, chain_step, chain_end}
use Rattle.rounds.proofs.Cells.{Gone, gone_more}
use Rattle.rounds.proofs.Questions.{outset_all}
use Rattle.rounds.proofs.asking.set_out.Goals as goal

pub walk-w-requires : goal.walk-w-requires
walk-w-requires c =
    let (at, left, ok, long, cells) = c.loop-j.invariant in
    let laid = c.args.layout.laid in
    let (here, rest) = chain_step (walk_from c.args.layout.walks.now) laid.chained laid.link_long ok left c.in-Some.ensures.steps in
    omega (arith, ok.within)

pub loop-j-preserved : goal.loop-j-preserved
loop-j-preserved c =
    let (at, left, ok, long, cells) = c.loop-j.invariant in
    let laid = c.args.layout.laid in
    let (here, rest) = chain_step (walk_from c.args.layout.walks.now) laid.chained laid.link_long ok left c.in-Some.ensures.steps in
    let j = c.in-Some.j in
    let w = c.walk-w.result in
    let is = c.walk-w.ensures.value in
    let low = c.lower-in-loop-j.ensures in (
      _,
      rest,
      chain_next (walk_from c.args.layout.walks.now) laid.chained j here ok,
      low.long ∙ long,
      λ d h. gone_more laid.chained j w is here ok (cells d h) (low.cells d (omega arith)),
    )

pub returns : goal.returns
returns c =
    let (at, left, ok, long, cells) = c.loop-j.invariant in
    let laid = c.args.layout.laid in
    let blank = c.fill.ensures.after (λ y e. e) ∙ ap (λ n. replicate n never) c.requires.piers in
    let done = chain_end (walk_from c.args.layout.walks.now) laid.chained laid.link_long ok left c.in-None.ensures.steps.0 in
    outset_all c.loop-j.ready (length c.args.layout.change.now) refl blank c.lower.ensures (omega arith)
    (λ d h. subst (Gone c.args.layout.walks.now c.args.q.from c.args.q.time d _ _) done (cells d h))

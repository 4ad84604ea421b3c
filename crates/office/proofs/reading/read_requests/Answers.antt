use Rattle.std.proofs.Common.{◌+◌, sym, ◌∙◌}
use Rattle.std.proofs.lemmas.List.{take_rest}
use Rattle.office.proofs.Requests.{written_none, written_more}
use Rattle.office.proofs.reading.read_requests.Goals as goal

pub loop-at-init : goal.loop-at-init
loop-at-init c = written_none c.args.bytes.now c.args.start _ c.new-all.ensures.items

pub loop-at-preserved : goal.loop-at-preserved
loop-at-preserved c =
    let bs = c.args.bytes.now in
    let at = c.loop-at.at in
    written_more bs _ _ c.args.start at c.size-size.result c.min.result c.in-Ok.kind _ _ c.in-Some.request
    c.loop-at-test.true (sym c.try_from.ensures ∙ c.in-Ok.is) (take_rest bs (at + 1)) c.size-size.ensures.value
    c.in_ok-numbers.ensures c.in-Some.ensures c.min.ensures c.in_ok-push.ensures.items
    c.loop-at.invariant

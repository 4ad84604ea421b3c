use Rattle.std.proofs.Common.{length, arith, length-set}
use Rattle.marks.proofs.Row.{row_more}
use Rattle.marks.proofs.front.Front.write.Goals as goal

pub loop-i-preserved : goal.loop-i-preserved
loop-i-preserved c =
    let long = length-set c.args.out.now 0 (length c.marks-marks.result.now) in
    let few = c.marks-marks.ensures.few in
    row_more _ c.marks-marks.result.now _ c.loop-i.i _ c.loop-i.invariant _ c.loop-i-test.true (omega arith)

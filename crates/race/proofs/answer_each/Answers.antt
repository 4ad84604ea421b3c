use Rattle.std.proofs.Common.{◌+◌, sym, subst, arith}
use Rattle.rounds.specs.Rows.{plan_of}
use Rattle.race.proofs.Each.{AnsweredTo, to_skip, to_more}
use Rattle.race.proofs.answer_each.Goals as goal
use Rattle.race.proofs.answer_each.Goals.{then-i-out, else-i-out}

pub loop-i-preserved : goal.loop-i-preserved
loop-i-preserved c =
    let p = plan_of c.args.layout in
    let qs = c.args.questions.now in
    let out = c.args.out.now in
    let i = c.loop-i.i in
    elim c.if-i-out.branch [
      | then-i-out w ↦
          subst (λ row. AnsweredTo p qs out row (i + 1)) (sym w.out-is)
          (to_more {p = p} {qs = qs} {out = out} c.loop-i.out w.answer_opened.new.out i w.answer_opened.result
          (omega (arith, w.if-i-out.true)) (omega arith) (omega (arith, w.answer_opened.auto.out))
          w.answer_opened.ensures c.loop-i.invariant)
      | else-i-out w ↦
          subst (λ row. AnsweredTo p qs out row (i + 1)) (sym w.out-is)
          (to_skip {p = p} {qs = qs} {out = out} i (λ room. omega (arith, w.if-i-out.false)) c.loop-i.invariant)
    ]

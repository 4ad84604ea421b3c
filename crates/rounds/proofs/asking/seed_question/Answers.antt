use Rattle.std.proofs.Common.{ℕ, cond, ap, ◌∙◌, arith}
use Rattle.plan.specs.Legs.{leg}
use Rattle.rounds.specs.Rows.{plan_of}
use Rattle.rounds.proofs.Questions.{outset_begins}
use Rattle.rounds.proofs.asking.seed_question.Goals as goal

pub returns : goal.returns
returns c =
    let p = plan_of c.args.layout in
    let q = c.args.q in
    record {
      seeds = λ i h.
          let fits = c.args.layout.laid.legs i h in
          c.sow.ensures i h
          ∙ ap (λ b. cond {A = ℕ} b 1 0)
          (outset_begins {p = p} q.from q.time c.set_out.new.ready (leg p i) c.set_out.ensures
          fits.from
          (omega (arith, fits.leaves)));
      outset = c.set_out.ensures;
    }

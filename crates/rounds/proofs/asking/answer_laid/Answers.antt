use Rattle.std.proofs.Common.{arith}
use Rattle.rounds.specs.Rows.{plan_of}
use Rattle.rounds.proofs.Questions.{seeds_sown, seeds_one, seeds_levels, seeds_answer}
use Rattle.rounds.proofs.asking.answer_laid.Goals as goal

pub go_rounds_until-requires : goal.go_rounds_until-requires
go_rounds_until-requires c = record {
  legs = c.requires.legs;
  sown =
      seeds_sown (plan_of c.args.layout) c.args.q c.seed_question.new.seed
      c.seed_question.ensures.seeds;
  last = λ i h.
      seeds_one (plan_of c.args.layout) c.args.q c.seed_question.new.seed
      c.seed_question.ensures.seeds i (omega arith);
  few = c.requires.few;
  seeds = omega arith;
  levels = c.requires.levels;
  waits = c.requires.waits;
  ready = omega arith;
  later = c.requires.later;
  arrived = c.requires.arrived;
}

pub returns : goal.returns
returns c =
    let p = plan_of c.args.layout in
    let q = c.args.q in
    let seed = c.seed_question.new.seed in
    let sow = c.seed_question.ensures.seeds in
    record {
      answer = seeds_answer p q seed sow c.args.layout.laid c.requires.asked
          (c.seed_question.ensures.outset q.to c.requires.asked.to) c.go_rounds_until.ensures.marks;
      levels = seeds_levels p q seed sow c.go_rounds_until.ensures.levels;
    }

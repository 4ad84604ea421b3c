use Rattle.std.proofs.Common.{sym, refl, subst, arith, rules}
use Rattle.journey.specs.Aboard.{Aboard}
use Rattle.marks.specs.Fronts.{marks_of}
use Rattle.rounds.specs.Rows.{plan_of}
use Rattle.rounds.specs.Levels.{Levels}
use Rattle.itinerary.specs.Named.{not_told, named}
use Rattle.itinerary.proofs.Writing.{among_contains}
use Rattle.itinerary.proofs.journey_for.name_journey.Goals as goal

pub returns-then-not-contains : goal.returns-then-not-contains
returns-then-not-contains c =
    let told = among_contains c.args.mark (marks_of c.answer-front.result) in
    not_told (omega arith) (marks_of c.answer-front.result) c.answer-front.ensures.answer
    (λ i. let found = told.1 i in search rules) refl refl

pub write_journey-requires-clause-levels : goal.write_journey-requires-clause-levels
write_journey-requires-clause-levels c = c.levels-level.ensures.long

pub write_journey-requires-clause-marked : goal.write_journey-requires-clause-marked
write_journey-requires-clause-marked c =
    let p = plan_of c.args.layout in
    let q = c.args.query.question in
    let told = among_contains c.args.mark (marks_of c.answer-front.result) in
    record {
      most = c.args.query.most;
      marks = marks_of c.answer-front.result;
      levels =
          subst (Levels (Aboard p q.from q.time) p c.args.query.most) (sym c.levels-level.ensures.value) c.answer-front.ensures.levels;
      answer = c.answer-front.ensures.answer;
      among = told.0 (search rules);
    }

pub returns : goal.returns
returns c =
    let told = among_contains c.args.mark (marks_of c.answer-front.result) in
    named (omega arith) (marks_of c.answer-front.result) c.answer-front.ensures.answer (told.0 (search rules))
    c.write_journey.result c.write_journey.ensures refl

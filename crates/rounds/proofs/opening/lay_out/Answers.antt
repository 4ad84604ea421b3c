use Rattle.std.proofs.Common.{◌≡◌, true, arith, rules}
use Rattle.plan.specs.Words.{plan_in}
use Rattle.plan.specs.Check.{sound_words}
use Rattle.plan.proofs.Laws.{sound_plan}
use Rattle.rounds.specs.Opened.{plan_of}
use Rattle.rounds.proofs.Laying.{Filled, walks_from, plans_alike, plan_laid}
use Rattle.rounds.proofs.opening.lay_out.Goals as goal

pub link_walks-requires : goal.link_walks-requires
link_walks-requires c =
    let checked : sound_words c.args.table.words.now ≡ true = search rules in
    record {
      few = omega arith;
      from = walks_from (sound_plan _ checked) c.fill_walks.ensures (omega arith);
      size = omega arith;
    }

pub returns : goal.returns
returns c =
    let checked : sound_words c.args.table.words.now ≡ true = search rules in
    let s = sound_plan c.args.table.words.now checked in
    let filled : Filled (plan_in c.args.table.words.now) c.args.keys.now
    (plan_of c.fill_legs.new.legs c.fill_walks.new.walks c.fill_changes.new.change)
    c.fill_legs.new.joins c.link_walks.new.first c.link_walks.new.link = record {
      joins_long = omega arith;
      first_long = omega arith;
      link_long = omega arith;
      legs = c.fill_legs.ensures.legs;
      joined = c.fill_legs.ensures.joins;
      walks = c.fill_walks.ensures;
      change = c.fill_changes.ensures;
      chained = c.link_walks.ensures;
    } in
    record { legs = filled.legs; alike = plans_alike s filled; laid = plan_laid s filled }

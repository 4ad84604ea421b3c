use Rattle.std.proofs.Common.{◌≡◌, Ok, rules}
use Rattle.plan.specs.Legs.{piers}
use Rattle.rounds.specs.Query.{query_checked}
use Rattle.rounds.specs.Rows.{plan_of}
use Rattle.itinerary.proofs.journey_for.journey_opened.Goals as goal

pub returns : goal.returns
returns c =
    let read : query_checked (piers (plan_of c.args.layout)) c.args.question.now ≡ Ok c.in_ok-query.query = search rules in
    rw read c.name_journey.ensures

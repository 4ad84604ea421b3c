use Rattle.std.proofs.Common.{◌≤◌, length}
use Rattle.rounds.specs.Rows.{plan_of}
use Rattle.itinerary.specs.Tracing.{legs_from, Places}
use Rattle.itinerary.proofs.SteppingBack.{Tracing, to_come}
use Rattle.itinerary.proofs.search.Search.trace.Given as goal

abbrev pub invariant-back : goal.invariant-back
invariant-back l = record {
  space : l.at ≤ length l.row;
  places : Places (length l.self.layout.legs.now) l.at l.row;
  tracing : Tracing (plan_of l.self.layout) l.self.question l.self.level.now l.fn.mark l.at
      (legs_from (plan_of l.self.layout) l.at l.row) l.next;
}

abbrev pub decreases-back : goal.decreases-back
decreases-back l = to_come l.self.level.now (length l.self.layout.legs.now) l.next

use Rattle.laws.proofs.MarksOnce.{marks_once}
use Rattle.laws.proofs.itineraries.a_mark_needs_no_leg_twice.Goals as goal

pub returns : goal.returns
returns c = marks_once

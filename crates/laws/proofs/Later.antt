-- Who sets out later is no better off.
use Rattle.std.proofs.Common.{arith}
use Rattle.journey.specs.Journeys.{boats}
use Rattle.journey.specs.Journeys.Reached.{without_boat, by_legs}
use Rattle.journey.proofs.Walking.{ends_earlier}
use Rattle.journey.proofs.Chains.{journey_earlier}
use Rattle.laws.specs.JourneyLaws.{LaterNoBetter}

-- The same journey will do: who has more time to its first leg can begin with it too. Only without a boat does one come
-- earlier by setting out earlier.
pub later_is_no_better : LaterNoBetter
later_is_no_better p q u arrival taken h (without_boat e) =
    let (w, f, l) = ends_earlier q.time h e in
    record { arrival = w; taken = 0; found = without_boat f; no_later = l; no_more = omega arith }
later_is_no_better p q u arrival taken h (by_legs first rest j e) =
    record {
      arrival = arrival;
      taken = boats first rest;
      found = by_legs first rest (journey_earlier q.time h j) e;
      no_later = omega arith;
      no_more = omega arith;
    }

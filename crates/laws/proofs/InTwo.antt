-- Two journeys with a change between them are one.
use Rattle.std.proofs.Common.{ℕ, ◌+◌, ◌≤◌, List, ◌∷◌, ◌++◌, sym, subst, arith}
use Rattle.plan.specs.declared.leg.Leg.{Leg}
use Rattle.plan.specs.Legs.{Plan}
use Rattle.journey.specs.Steps.{change_for}
use Rattle.journey.specs.Journeys.{boats, last, Ends, Journey, Reached}
use Rattle.journey.specs.Journeys.Reached.{by_legs}
use Rattle.journey.proofs.Following.{follows_board, begins_boards}
use Rattle.journey.proofs.Chains.{Link, joined_more, journey_on, joined_append, last_append, boats_append, boats_append_stay, boats_append_le}
use Rattle.laws.specs.JourneyLaws.{asked, InTwo}

-- The second's first leg follows the first's last: it goes from the pier after the change, or it is reached by a walk
-- that sets out after the change and so can set out before it.
together : (p : Plan) (s t u : ℕ) (a : Leg) (xs : List Leg) (b : Leg) (ys : List Leg) → Journey p s t a xs →
    (last a xs).comes + change_for p (last a xs) b ≤ u → Journey p (last a xs).to u b ys → Journey p s t a (xs ++ b ∷ ys)
together p s t u a xs b ys j h k =
    let link : Link p (last a xs) b ys = record {
      follow = follows_board p (last a xs) b (begins_boards p (last a xs) b u h k.begun);
      known = k.known;
      going = k.going;
      linked = k.linked;
    } in
    journey_on (xs ++ b ∷ ys) j (joined_append p a xs b ys j.linked (joined_more p (last a xs) b ys link))

-- what the whole reaches, with its own boats
reaches : (p : Plan) (s t d u : ℕ) (a : Leg) (xs : List Leg) (b : Leg) (ys : List Leg) →
    Journey p s t a (xs ++ b ∷ ys) → Ends p d (last b ys).to (last b ys).comes u →
    Reached p (asked s t d) u (boats a (xs ++ b ∷ ys))
reaches p s t d u a xs b ys j e =
    by_legs a (xs ++ b ∷ ys) j (subst (λ (l : Leg). Ends p d l.to l.comes u) (sym (last_append a xs b ys)) e)

pub two_journeys_are_one : InTwo
two_journeys_are_one p s t u a xs b ys j h k =
    let whole = together p s t u a xs b ys j h k in
    record {
      whole = whole;
      same_last = last_append a xs b ys;
      at_most = boats_append_le a xs b ys;
      adds_up = boats_append a xs b ys;
      one_less = boats_append_stay a xs b ys;
      arrives_by = λ d v e. record {
        arrival = v;
        taken = boats a (xs ++ b ∷ ys);
        found = reaches p s t d v a xs b ys whole e;
        no_later = omega arith;
        no_more = boats_append_le a xs b ys;
      };
      arrives = λ d v e n.
          subst (λ (m : ℕ). Reached p (asked s t d) v m) (boats_append a xs b ys n) (reaches p s t d v a xs b ys whole e);
    }

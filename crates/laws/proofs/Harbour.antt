-- The examples: all are computed, but that nobody gets there by two walks.
use Rattle.std.proofs.Common.{◌≡◌, ℕ, ◌≤◌, true, [], ◌∷◌, refl, ⊎_elim, arith}
use Rattle.std.proofs.lemmas.Bool.{false≢true}
use Rattle.std.specs.List.{AllByRecursion}
use Rattle.plan.specs.declared.leg.Leg.{Leg}
use Rattle.journey.specs.Steps.{walks_to}
use Rattle.journey.specs.Journeys.{in_plan, joined, boats, last, Reached}
use Rattle.journey.specs.Journeys.Ends.{at_once, on_foot}
use Rattle.journey.specs.Journeys.Reached.{without_boat, by_legs}
use Rattle.journey.proofs.PlanLegs.{in_plan_all}
use Rattle.journey.proofs.Walking.{ends_cases}
use Rattle.journey.proofs.Following.{begins_le}
use Rattle.laws.specs.JourneyLaws.{asked}
use Rattle.laws.specs.JourneyExamples.{harbour, early, onward, missed, caught, across, ExamplesStand}

each_gone : AllByRecursion (λ b. b.leaves ≤ 40) harbour.legs
each_gone = (omega arith, (omega arith, (omega arith, (omega arith, (omega arith, (omega arith, (omega arith, tt)))))))

all_gone : (a : Leg) → in_plan a harbour.legs ≡ true → a.leaves ≤ 40
all_gone a e = in_plan_all (λ b. b.leaves ≤ 40) a harbour.legs each_gone e

-- On foot it would take one walk, and there is none from 0 to 4; and every boat has left by 40.
nobody_walks_on : (arrival taken : ℕ) → Reached harbour (asked 0 100 4) arrival taken → ⊥
unfolding walks_to
nobody_walks_on arrival taken (without_boat e) = ⊎_elim (λ h. omega (arith, h.0)) (λ h. false≢true h) (ends_cases e)
nobody_walks_on arrival taken (by_legs first rest j e) =
    omega (arith, begins_le harbour 0 100 first j.begun, all_gone first j.known)

pub harbour_stands : ExamplesStand
unfolding walks_to in_plan joined boats last
harbour_stands = record {
  stayed = refl;
  too_short = refl;
  one_boat = refl;
  by_staying = by_legs early (onward ∷ []) (record { begun = refl; known = refl; going = refl; linked = refl }) at_once;
  stayed_too = refl;
  changed_too = refl;
  still_one_boat = refl;
  not_followed = refl;
  two_boats = refl;
  by_changing = by_legs early (caught ∷ []) (record { begun = refl; known = refl; going = refl; linked = refl }) at_once;
  by_walking = by_legs early (across ∷ []) (record { begun = refl; known = refl; going = refl; linked = refl }) at_once;
  no_change_first = by_legs missed [] (record { begun = refl; known = refl; going = refl; linked = refl }) at_once;
  in_time = refl;
  too_late = refl;
  begun_on_foot = by_legs across [] (record { begun = refl; known = refl; going = refl; linked = refl }) at_once;
  ended_on_foot =
      by_legs early (onward ∷ []) (record { begun = refl; known = refl; going = refl; linked = refl })
      (on_foot 1 (omega arith) refl refl);
  all_on_foot = without_boat (on_foot 0 (omega arith) refl refl);
  already_there = without_boat at_once;
  no_walk_between = λ t u. refl;
  not_by_two_walks = nobody_walks_on;
  backward_in_plan = refl;
  backward_follows = refl;
  none_goes_on_backward = refl;
  backward_begins = refl;
  none_begins_backward = λ xs j. false≢true j.going;
  stranger_follows = refl;
  none_goes_on_strange = refl;
  none_begins_strange = λ s t xs j. false≢true j.known;
}

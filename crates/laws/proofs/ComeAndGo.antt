-- An extra leg keeps every journey, and a cancelled one makes none that was not there.
use Rattle.std.proofs.Common.{ℕ, Bool, not, List, [], ◌∷◌, filter, arith}
use Rattle.std.proofs.lemmas.Bool.Decides.{nat_tests}
use Rattle.plan.specs.declared.leg.Leg.{Leg}
use Rattle.journey.specs.Journeys.{in_plan}
use Rattle.journey.proofs.PlanLegs.{in_plan_append_left}
use Rattle.updates.specs.declared.update.Update.TheVariants.{Cancel, Extra}
use Rattle.updates.specs.Updates.{named, after}
use Rattle.laws.specs.JourneyLaws.{AllIn}
use Rattle.laws.specs.UpdateLaws.{ExtraLeg, CancelledLeg}
use Rattle.laws.proofs.MoreLegs.{more_legs_keep_journeys}

-- a leg that is kept was there
kept_in : (test : Leg → Bool) (ls : List Leg) → AllIn (filter test ls) ls
unfolding in_plan
kept_in test [] a e = e
kept_in test (b ∷ bs) a e = let ih = kept_in test bs a in grind (arith, nat_tests)

pub extra_leg : ExtraLeg
extra_leg p a q =
    let still_in : AllIn p.legs (after p (Extra a)).legs = λ b e. in_plan_append_left b p.legs (a ∷ []) e in
    let keeps = λ (arrival taken : ℕ).
    more_legs_keep_journeys p (after p (Extra a)).legs q arrival taken still_in in
    record {
      reached = keeps;
      no_worse_off = λ most ms ns x y m i. y.all m (keeps m.arrival m.boats (x.reached m i)) (x.few m i);
    }

pub cancelled_leg : CancelledLeg
cancelled_leg p n q =
    let were_in = kept_in (λ a. not (named n a)) p.legs in
    let was_there = λ (arrival taken : ℕ).
    more_legs_keep_journeys (after p (Cancel n)) p.legs q arrival taken were_in in
    record {
      reached = was_there;
      no_better_off = λ most ms ns x y m i. x.all m (was_there m.arrival m.boats (y.reached m i)) (y.few m i);
    }

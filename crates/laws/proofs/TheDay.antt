-- The itinerary of the day: the only journey that reaches its mark; it goes as long as its legs are a journey.
use Rattle.std.proofs.Common.{◌≡◌, ℕ, suc, Bool, true, false, ◌&&◌, ◌||◌, eqb, List, [], ◌∷◌, reverse, sym, refl, ap, ◌∙◌, subst, inl, inr, ⊎_elim, arith}
use mathlib.Core.List.{reverse-reverse}
use Rattle.std.proofs.lemmas.Bool.{false≢true, or_left, or_right, and_from, eq-eqb}
use Rattle.plan.specs.declared.leg.Leg.{Leg}
use Rattle.plan.specs.Legs.{Plan}
use Rattle.journey.specs.Steps.{stays, walks_to, boards}
use Rattle.journey.specs.Journeys.{in_plan, joined, boats, last, Ends, Journey}
use Rattle.journey.specs.Journeys.Ends.{at_once}
use Rattle.journey.proofs.PlanLegs.{in_plan_all}
use Rattle.journey.proofs.Walking.{ends_cases}
use Rattle.journey.proofs.Following.{stays_says}
use Rattle.itinerary.specs.Order.{Reaching, Itinerary}
use Rattle.itinerary.specs.Order.Reaching.{by_legs_there}
use Rattle.itinerary.proofs.Backwards.{Trail, trail_usable, trail_some, trail_none, trail_more, reaching_back}
use Rattle.updates.specs.Still.{StillGoes}
use Rattle.serving.specs.Runs.{day}
use Rattle.laws.specs.JourneyLaws.{asked, named_in, named_twice}
use Rattle.laws.specs.UpdateLaws.{LegsNow}
use Rattle.laws.specs.AnswerExamples.{leg_from}
use Rattle.laws.specs.DayTable.{four_piers, by_now}
use Rattle.laws.specs.DayExamples.{by_run_1, DayStands}
use Rattle.laws.proofs.NoLegTwice.{one_of_a_name}
use Rattle.laws.proofs.StillGoing.{still_exact}

-- the legs as they are by the plan, and run 0's first leg when it is late
abbrev out : Leg
out = leg_from 0 0 0 1 10 20

abbrev late : Leg
late = leg_from 0 0 0 1 12 22

abbrev on : Leg
on = leg_from 1 0 1 2 24 30

-- ---- what is told

-- From the last leg back: run 1 alone comes to pier 2 at 30, and no walk leads there; run 0's first leg alone can come
-- before it; and with no boat left nothing comes before that.
abbrev ends_there : Leg → Bool
ends_there a = (eqb a.to 2 && eqb a.comes 30) || walks_to four_piers.walks a.to a.comes 2 30

ends_says : (a : Leg) → Ends four_piers 2 a.to a.comes 30 → ends_there a ≡ true
ends_says a e =
    ⊎_elim
    (λ h. or_left (eqb a.to 2 && eqb a.comes 30) _ (and_from _ _ (eq-eqb _ _ h.0) (eq-eqb _ _ (sym h.1))))
    (λ h. or_right (eqb a.to 2 && eqb a.comes 30) _ h)
    (ends_cases e)

no : {A : Type 0} → false ≡ true → A
no e = absurd (false≢true e)

last_is : (a : Leg) → in_plan a four_piers.legs ≡ true → ends_there a ≡ true → a ≡ on
unfolding walks_to
last_is a known =
    in_plan_all (λ b. ends_there b ≡ true → b ≡ on) a four_piers.legs (no, (no, (λ e. refl, (no, (no, tt))))) known

before_is : (a : Leg) → in_plan a four_piers.legs ≡ true → boards four_piers a on ≡ true → a ≡ out
unfolding walks_to
before_is a known =
    in_plan_all (λ b. boards four_piers b on ≡ true → b ≡ out) a four_piers.legs
    (λ e. refl, (no, (no, (no, (no, tt))))) known

-- nobody stays aboard for the first leg of a run
not_stayed : (a : Leg) (r f t l c : ℕ) → stays a (leg_from r 0 f t l c) ≡ true → ⊥
not_stayed a r f t l c e = omega (arith, (stays_says a (leg_from r 0 f t l c) e).number)

first_is : (j : ℕ) (xs : List Leg) → j ≡ 1 → Trail four_piers 0 9 j out xs → xs ≡ []
first_is j [] one x = refl
first_is j (a ∷ xs) one x =
    ⊎_elim (λ w. absurd (not_stayed a 0 0 1 10 20 w.0)) (λ w. absurd (omega (arith, w.1, trail_some w.3)))
    (trail_more x)

rest_is : (xs : List Leg) → Trail four_piers 0 9 2 on xs → xs ≡ out ∷ []
rest_is [] x = absurd (omega (arith, (trail_none x).0))
rest_is (a ∷ xs) x = ⊎_elim (λ w. absurd (not_stayed a 1 1 2 24 30 w.0)) by (trail_more x)
  where
    by : (j : ℕ) × (suc j ≡ 2) × (boards four_piers a on ≡ true) × Trail four_piers 0 9 j a xs → a ∷ xs ≡ out ∷ []
    by (j, two, e, y) =
        let is = before_is a (trail_usable y).known e in
        let none = first_is j xs (omega arith) (subst (λ (b : Leg). Trail four_piers 0 9 j b xs) is y) in
        λ i. is i ∷ none i

only_one : (others : List Leg) → Reaching four_piers (asked 0 9 2) 30 2 others → others ≡ out ∷ on ∷ []
only_one others r =
    let b = reaching_back (omega arith) r in
    let is = last_is b.end (trail_usable b.on).known (ends_says b.end b.ends) in
    let rest = rest_is b.rest (subst (λ (a : Leg). Trail four_piers 0 9 2 a b.rest) is b.on) in
    let back : reverse others ≡ on ∷ out ∷ [] = b.told ∙ (λ i. is i ∷ rest i) in
    sym (reverse-reverse others) ∙ ap reverse back

told : Itinerary four_piers (asked 0 9 2) 30 2 (out ∷ on ∷ [])
unfolding walks_to in_plan joined boats last
told = record {
  reaching = by_legs_there (record { begun = refl; known = refl; going = refl; linked = refl }) at_once refl;
  first = λ others r. inl (only_one others r);
}

-- ---- what becomes of it

still_there : Journey (by_now 1) 0 9 out (on ∷ [])
unfolding day walks_to in_plan joined
still_there = record { begun = refl; known = refl; going = refl; linked = refl }

-- where the legs that have the names now are not joined, the names do not go
not_joined : (p : Plan) → named_twice p.legs ≡ false → LegsNow p by_run_1 late (on ∷ []) →
    joined p late (on ∷ []) ≡ false → StillGoes p 0 9 by_run_1 → ⊥
not_joined p once now apart s =
    false≢true (sym apart ∙ ((still_exact p 0 9 by_run_1 late (on ∷ []) (one_of_a_name p.legs once) now).0 s).linked)

late_now : (n : ℕ) → (in_plan late (by_now n).legs ≡ true) → (in_plan on (by_now n).legs ≡ true) →
    LegsNow (by_now n) by_run_1 late (on ∷ [])
late_now n h l = record { known = (h, (l, tt)); named = refl }

pub day_stands : DayStands
unfolding day walks_to in_plan joined named_in named_twice
day_stands = record {
  told = told;
  still = inr (out, (on ∷ [], record { made = still_there; named = refl }));
  missed = not_joined (by_now 2) refl (late_now 2 refl refl) refl;
  missed_then = not_joined (by_now 3) refl (late_now 3 refl refl) refl;
  missed_at_last = not_joined (by_now 4) refl (late_now 4 refl refl) refl;
}

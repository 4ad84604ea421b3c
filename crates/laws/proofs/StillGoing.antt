-- What still goes is a journey of the plan as it is, and nothing else does.
use Rattle.std.proofs.Common.{◌≡◌, ℕ, List, ◌∷◌, sym, ◌∙◌, subst, inl, inr, arith}
use Rattle.plan.specs.declared.leg.Leg.{Leg}
use Rattle.plan.specs.Legs.{Plan}
use Rattle.plan.specs.declared.name.LegName.{LegName}
use Rattle.journey.specs.Journeys.{Journey}
use Rattle.journey.specs.Journeys.Reached.{by_legs}
use Rattle.journey.specs.Checked.{GoneAlong}
use Rattle.updates.specs.Still.{StillGoes}
use Rattle.laws.specs.UpdateLaws.{StillAJourney, StillExact}
use Rattle.laws.proofs.OneVerdict.{legs_same, legs_known}

-- with a name there is a leg to go
gone_along : {p : Plan} {s t : ℕ} {n : LegName} {ns : List LegName} → StillGoes p s t (n ∷ ns) →
    GoneAlong p s t (n ∷ ns)
gone_along (inl e) = let z : ◌≡◌ {A = ℕ} 0 1 = cc in absurd (omega arith)
gone_along (inr g) = g

pub still_a_journey : StillAJourney
still_a_journey p s t n ns still =
    let (first, (rest, g)) = gone_along still in
    record {
      first = first;
      rest = rest;
      now = record { known = legs_known g.made; named = g.named };
      made = g.made;
      reaches = λ d u e. by_legs first rest g.made e;
    }

-- the legs that have the names now are those of the journey
same_journey : (p : Plan) (s t : ℕ) (a first : Leg) (xs rest : List Leg) → a ∷ xs ≡ first ∷ rest → Journey p s t a xs →
    Journey p s t first rest
same_journey p s t a first xs rest e j =
    let is : a ≡ first = cc in
    let then : xs ≡ rest = cc in
    subst (λ ls. Journey p s t first ls) then (subst (λ b. Journey p s t b xs) is j)

pub still_exact : StillExact
still_exact p s t names first rest once now = (back, λ j. inr (first, (rest, record { made = j; named = now.named })))
  where
    back : StillGoes p s t names → Journey p s t first rest
    back (inl none) = let e = now.named in let z : ◌≡◌ {A = ℕ} 0 1 = cc in absurd (omega arith)
    back (inr (a, (xs, g))) =
        let known = legs_known g.made in
        let same = legs_same p.legs once (a ∷ xs) (first ∷ rest) known now.known (sym g.named ∙ now.named) in
        same_journey p s t a first xs rest same g.made

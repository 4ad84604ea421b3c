-- Journeys told forwards, and the same seen from their last leg.
use Rattle.std.proofs.Common.{◌≡◌, ℕ, suc, ◌+◌, ◌≤◌, true, ◌⊎◌, List, [], ◌∷◌, sym, refl, ap, ◌∙◌, subst, inl, inr, ⊎_elim, arith}
use Rattle.std.proofs.lemmas.Bool.{cases_Bool}
use Rattle.plan.specs.declared.leg.Leg.{Leg}
use Rattle.plan.specs.Legs.{Plan}
use Rattle.journey.specs.declared.question.Question.{Question}
use Rattle.journey.specs.Steps.{stays}
use Rattle.journey.specs.Journeys.{joined, boats, last, Ends, Journey, Reached, ReachedBy}
use Rattle.journey.specs.Journeys.Reached.{without_boat, by_legs}
use Rattle.journey.specs.Aboard.{Usable, Begun, Stayed, Boarded, Aboard}
use Rattle.journey.specs.Aboard.AboardBy.{start}
use Rattle.journey.proofs.Following.{follows_stay, follows_board, follows_else}
use Rattle.journey.proofs.Chains.{joined_none, joined_says, joined_more, boats_none, boats_stay, boats_board, boats_head}
use Rattle.journey.proofs.Aboard.{Along, along_end, along_free, along_paid}
use Rattle.journey.proofs.Aboard.{aboard_more, aboard_some, aboard_along, aboard_seeded}

-- a boat more does no harm, and a journey by boat has one
pub boats_more : {p : Plan} {s t j k : ℕ} {b : Leg} → j ≤ k → Aboard p s t j b → Aboard p s t k b
boats_more h x = aboard_more (λ i j b l y. record { enough = omega arith; begun = y.begun }) h x

pub boats_least : {p : Plan} {s t k : ℕ} {b : Leg} → Aboard p s t k b → 1 ≤ k
boats_least x = aboard_some (λ k b y. y.enough) x

-- Legs that are joined are a chain of free and paid steps. Where one can stay it is a stay, so that of the two the
-- paid ones are exactly the boats after the first.
pub joined_along : (p : Plan) (a : Leg) (bs : List Leg) → joined p a bs ≡ true →
    (n : ℕ) × (suc n ≡ boats a bs) × Along Stayed (Boarded p) (Usable p) a bs n
joined_along p a [] e = (0, sym (boats_none a), along_end)
joined_along p a (b ∷ bs) e =
    let l = joined_says p a b bs e in
    let (n, few, steps) = joined_along p b bs l.linked in
    let u : Usable p b = record { known = l.known; going = l.going } in
    ⊎_elim
    (λ s. (n, few ∙ sym (boats_stay a b bs s), along_free s u steps))
    (λ m. (suc n, ap suc few ∙ sym (boats_board a b bs m), along_paid (follows_else p a b l.follow m) u steps))
    (cases_Bool (stays a b))

-- Back: a chain is joined. A step that is paid for may be one where one could have stayed, so its boats are at most
-- the paid steps and one.
pub along_joined : (p : Plan) {a : Leg} {bs : List Leg} {n : ℕ} → Along Stayed (Boarded p) (Usable p) a bs n →
    (joined p a bs ≡ true) × (boats a bs ≤ suc n)
along_joined p {a} along_end = (joined_none p a, omega (arith, boats_none a))
along_joined p {a} (along_free {b = b} {bs = bs} s u l) =
    let (e, few) = along_joined p l in
    let follow = follows_stay p a b s in
    let links = joined_more p a b bs (record { follow = follow; known = u.known; going = u.going; linked = e }) in
    (links, omega (arith, boats_stay a b bs s))
along_joined p {a} (along_paid {b = b} {bs = bs} s u l) =
    let (e, few) = along_joined p l in
    let follow = follows_board p a b s in
    let links = joined_more p a b bs (record { follow = follow; known = u.known; going = u.going; linked = e }) in
    (links, omega (arith, boats_head a b bs))

-- whoever makes a journey is aboard of its last leg, with its boats
pub journey_aboard : {p : Plan} {s t : ℕ} {a : Leg} {bs : List Leg} → Journey p s t a bs →
    Aboard p s t (boats a bs) (last a bs)
journey_aboard {p} {s} {t} {a} {bs} j =
    let x = joined_along p a bs j.linked in
    let same : x.0 + 1 ≡ boats a bs = omega (arith, x.1) in
    let seed : Begun p s t 1 a = record { enough = omega arith; begun = j.begun } in
    let first : Aboard p s t 1 a = start seed (record { known = j.known; going = j.going }) in
    aboard_along (boats a bs) same first x.2

-- a journey that ends with a leg, with at most so many boats
pub record JourneyTo (p : Plan) (s t k : ℕ) (b : Leg) : Type 0 where
  pub first : Leg
  pub rest : List Leg
  pub made : Journey p s t first rest
  pub is_last : last first rest ≡ b
  pub few : boats first rest ≤ k

-- whoever is aboard of a leg made a journey that ends with it
pub aboard_journey : {p : Plan} {s t k : ℕ} {b : Leg} → Aboard p s t k b → JourneyTo p s t k b
aboard_journey {p} {s} {t} {k} {b} x =
    let y = aboard_seeded x in
    let z = along_joined p y.steps in
    record {
      first = y.first;
      rest = y.rest;
      made = record { begun = y.begins_with.begun; known = y.usable.known; going = y.usable.going; linked = z.0 };
      is_last = y.is_last;
      few = omega (arith, y.few, y.begins_with.enough, z.1);
    }

-- what is reached is reached without a boat, or from a last leg
pub reached_aboard : {p : Plan} {q : Question} {u n : ℕ} → Reached p q u n →
    ((n ≡ 0) × Ends p q.to q.from q.time u)
    ⊎ ((b : Leg) × Aboard p q.from q.time n b × Ends p q.to b.to b.comes u)
reached_aboard (without_boat e) = inl (refl, e)
reached_aboard (by_legs first rest j e) = inr (last first rest, journey_aboard j, e)

pub aboard_reached : {p : Plan} {q : Question} {k u : ℕ} {b : Leg} → Aboard p q.from q.time k b →
    Ends p q.to b.to b.comes u → ReachedBy p q u k
aboard_reached {p} {q} {k} {u} {b} x e =
    let y = aboard_journey x in
    let ends = subst (λ (l : Leg). Ends p q.to l.to l.comes u) (sym y.is_last) e in
    record {
      arrival = u;
      taken = boats y.first y.rest;
      found = by_legs y.first y.rest y.made ends;
      no_later = omega arith;
      no_more = y.few;
    }

-- No journey needs a leg twice.
use Rattle.std.proofs.Common.{◌≡◌, ℕ, ◌≤◌, true, false, ◌⊎◌, List, [], ◌∷◌, sym, refl, ◌∙◌, subst, inl, inr, ⊎_elim, arith}
use Rattle.std.proofs.lemmas.Bool.{false≢true, cases_Bool, or_cases, or_parts, or_from, both_ways}
use Rattle.std.proofs.lemmas.Bool.Decides.{nat_tests}
use Rattle.plan.specs.declared.leg.Leg.{Leg}
use Rattle.plan.specs.Legs.{Plan, same_name}
use Rattle.journey.specs.Journeys.{in_plan, joined, boats, last, NamedOnce}
use Rattle.journey.proofs.PlanLegs.{in_plan_none, in_plan_cases}
use Rattle.journey.proofs.Chains.{Link, joined_says, joined_on, journey_on, last_more, boats_tail, boats_like}
use Rattle.laws.specs.JourneyLaws.{named_in, named_twice, NoLegTwice}

-- a leg of the list is named in it
named_there : (a b : Leg) (ls : List Leg) → same_name a b ≡ true → in_plan b ls ≡ true → named_in a ls ≡ true
unfolding named_in in_plan
named_there a b [] e i = absurd (false≢true i)
named_there a b (c ∷ cs) e i = let ih = named_there a b cs e in grind (arith, nat_tests)

same_name_sym : (a b : Leg) → same_name a b ≡ true → same_name b a ≡ true
same_name_sym a b e = grind (arith, nat_tests)

pub named_twice_parts : (a : Leg) (bs : List Leg) → named_twice (a ∷ bs) ≡ false →
    (named_in a bs ≡ false) × (named_twice bs ≡ false)
unfolding named_twice
named_twice_parts a bs e = or_parts (named_in a bs) (named_twice bs) e

pub named_twice_from : (a : Leg) (bs : List Leg) → named_in a bs ≡ false → named_twice bs ≡ false →
    named_twice (a ∷ bs) ≡ false
unfolding named_twice
named_twice_from a bs e f = or_from (named_in a bs) (named_twice bs) e f

-- A list that names no leg twice has one leg of each name: where one of two is the first of the list and the other
-- comes later, the first's name comes later too.
pub one_of_a_name : (ls : List Leg) → named_twice ls ≡ false → NamedOnce ls
one_of_a_name [] n a b i j e = absurd (false≢true (sym (in_plan_none a) ∙ i))
one_of_a_name (c ∷ cs) n a b i j e =
    pair (in_plan_cases a c cs i) (in_plan_cases b c cs j) (one_of_a_name cs (named_twice_parts c cs n).1 a b)
  where
    later : (d : Leg) → same_name c d ≡ true → in_plan d cs ≡ true → ⊥
    later d f k = both_ways (named_in c cs) (named_twice_parts c cs n).0 (named_there c d cs f k)

    pair : (a ≡ c) ⊎ (in_plan a cs ≡ true) → (b ≡ c) ⊎ (in_plan b cs ≡ true) →
        (in_plan a cs ≡ true → in_plan b cs ≡ true → same_name a b ≡ true → a ≡ b) → a ≡ b
    pair (inl f) (inl g) ih = f ∙ sym g
    pair (inl f) (inr g) ih = absurd (later b (subst (λ (l : Leg). same_name l b ≡ true) f e) g)
    pair (inr f) (inl g) ih = absurd (later a (subst (λ (l : Leg). same_name l a ≡ true) g (same_name_sym a b e)) f)
    pair (inr f) (inr g) ih = ih f g e

-- a chain from one leg to another, of at most so many boats, with no leg twice
record ChainOnce (p : Plan) (a end : Leg) (most : ℕ) : Type 0 where
  rest : List Leg
  linked : joined p a rest ≡ true
  same_last : last a rest ≡ end
  few : boats a rest ≤ most
  once : named_twice (a ∷ rest) ≡ false

again_here : (p : Plan) (a b : Leg) (bs : List Leg) → a ≡ b → joined p b bs ≡ true → named_twice (b ∷ bs) ≡ false →
    ChainOnce p a (last b bs) (boats b bs)
again_here p a b bs e l n =
    subst (λ (c : Leg). ChainOnce p c (last b bs) (boats b bs)) (sym e)
    (record { rest = bs; linked = l; same_last = refl; few = omega arith; once = n })

from_tail : (p : Plan) (a b c : Leg) (cs : List Leg) → ChainOnce p a (last c cs) (boats c cs) →
    ChainOnce p a (last b (c ∷ cs)) (boats b (c ∷ cs))
from_tail p a b c cs x = record {
  rest = x.rest;
  linked = x.linked;
  same_last = x.same_last ∙ sym (last_more b c cs);
  few = omega (arith, x.few, boats_tail b c cs);
  once = x.once;
}

left_out : (p : Plan) (a b : Leg) (bs : List Leg) (x : ChainOnce p b (last b bs) (boats b bs)) →
    ChainOnce p a (last b x.rest) (boats b x.rest) → ChainOnce p a (last a (b ∷ bs)) (boats a (b ∷ bs))
left_out p a b bs x y = record {
  rest = y.rest;
  linked = y.linked;
  same_last = y.same_last ∙ x.same_last ∙ sym (last_more a b bs);
  few = omega (arith, y.few, x.few, boats_tail a b bs);
  once = y.once;
}

put_in_front : (p : Plan) (a b : Leg) (bs : List Leg) → Link p a b bs → (x : ChainOnce p b (last b bs) (boats b bs)) →
    named_in a (b ∷ x.rest) ≡ false → ChainOnce p a (last a (b ∷ bs)) (boats a (b ∷ bs))
put_in_front p a b bs l x e = record {
  rest = b ∷ x.rest;
  linked = joined_on p a b x.rest l x.linked;
  same_last = last_more a b x.rest ∙ x.same_last ∙ sym (last_more a b bs);
  few = omega (arith, boats_like 0 a b x.rest bs (omega (arith, x.few)));
  once = named_twice_from a (b ∷ x.rest) e x.once;
}

-- Where the name of a leg comes in a chain with no leg twice, the leg itself stands there, since it is the only one of
-- that name; so the chain from there on begins with it.
from_again : (p : Plan) → NamedOnce p.legs → (a b : Leg) (bs : List Leg) →
    in_plan a p.legs ≡ true → in_plan b p.legs ≡ true → joined p b bs ≡ true →
    named_twice (b ∷ bs) ≡ false → named_in a (b ∷ bs) ≡ true → ChainOnce p a (last b bs) (boats b bs)
unfolding named_in
from_again p u a b [] i j l n again =
    ⊎_elim
    (λ e. again_here p a b [] (u a b i j e) l n)
    (λ e. absurd (false≢true e))
    (or_cases (same_name a b) (named_in a []) again)
from_again p u a b (c ∷ cs) i j l n again =
    let k = joined_says p b c cs l in
    let once = (named_twice_parts b (c ∷ cs) n).1 in
    ⊎_elim
    (λ e. again_here p a b (c ∷ cs) (u a b i j e) l n)
    (λ e. from_tail p a b c cs (from_again p u a c cs i k.known k.linked once e))
    (or_cases (same_name a b) (named_in a (c ∷ cs)) again)

-- Shorten the legs behind the first, which keeps their first and their last. If the first leg does not come among them
-- again, put it in front; else leave out everything from it to where it comes again.
shorten : (p : Plan) → NamedOnce p.legs → (a : Leg) (bs : List Leg) →
    in_plan a p.legs ≡ true → joined p a bs ≡ true → ChainOnce p a (last a bs) (boats a bs)
unfolding named_in named_twice
shorten p u a [] i l = record { rest = []; linked = l; same_last = refl; few = omega arith; once = refl }
shorten p u a (b ∷ bs) i l =
    let k = joined_says p a b bs l in
    let x = shorten p u b bs k.known k.linked in
    ⊎_elim
    (λ e. left_out p a b bs x (from_again p u a b x.rest i k.known x.linked x.once e))
    (λ e. put_in_front p a b bs k x e)
    (cases_Bool (named_in a (b ∷ x.rest)))

pub no_leg_is_needed_twice : NoLegTwice
no_leg_is_needed_twice p s t a xs u j =
    let x = shorten p u a xs j.known j.linked in
    record {
      first = a;
      rest = x.rest;
      made = journey_on x.rest j x.linked;
      same_last = x.same_last;
      few = x.few;
      once = x.once;
    }

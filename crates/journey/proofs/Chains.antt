-- Legs that follow each other: their links, their last leg and their boats, one leg longer and two chains put together.
use Rattle.std.proofs.Common.{◌≡◌, ℕ, suc, ◌+◌, ◌≤◌, true, false, List, [], ◌∷◌, ◌++◌, sym, refl, ◌∙◌, subst, ⊎_elim, arith}
use Rattle.std.proofs.lemmas.Bool.{and_parts, and_from, cases_Bool, cond-true, cond-false}
use Rattle.std.proofs.lemmas.Bool.Decides.{nat_tests}
use Rattle.plan.specs.declared.leg.Leg.{Leg}
use Rattle.plan.specs.Legs.{Plan, runs}
use Rattle.journey.specs.Steps.{stays, follows}
use Rattle.journey.specs.Journeys.{in_plan, joined, boats, last, Journey}
use Rattle.journey.proofs.Following.{follows_le, begins_le, begins_earlier}

-- no leg more, and one leg more

pub joined_none : (p : Plan) (a : Leg) → joined p a [] ≡ true
unfolding joined
joined_none p a = refl

pub record Link (p : Plan) (a b : Leg) (bs : List Leg) : Type 0 where
  pub follow : follows p a b ≡ true
  pub known : in_plan b p.legs ≡ true
  pub going : runs b ≡ true
  pub linked : joined p b bs ≡ true

pub joined_says : (p : Plan) (a b : Leg) (bs : List Leg) → joined p a (b ∷ bs) ≡ true → Link p a b bs
unfolding joined
joined_says p a b bs e =
    let x = and_parts (follows p a b) _ e in
    let y = and_parts (in_plan b p.legs) _ x.1 in
    let z = and_parts (runs b) _ y.1 in
    record { follow = x.0; known = y.0; going = z.0; linked = z.1 }

pub joined_more : (p : Plan) (a b : Leg) (bs : List Leg) → Link p a b bs → joined p a (b ∷ bs) ≡ true
unfolding joined
joined_more p a b bs l = and_from _ _ l.follow (and_from _ _ l.known (and_from _ _ l.going l.linked))

-- the same step, and other legs behind it
pub joined_on : (p : Plan) (a b : Leg) {bs : List Leg} (cs : List Leg) → Link p a b bs → joined p b cs ≡ true →
    joined p a (b ∷ cs) ≡ true
joined_on p a b cs l e =
    joined_more p a b cs (record { follow = l.follow; known = l.known; going = l.going; linked = e })

pub last_none : (a : Leg) → last a [] ≡ a
unfolding last
last_none a = refl

pub last_more : (a b : Leg) (bs : List Leg) → last a (b ∷ bs) ≡ last b bs
unfolding last
last_more a b bs = refl

pub boats_none : (a : Leg) → boats a [] ≡ 1
unfolding boats
boats_none a = refl

pub boats_stay : (a b : Leg) (bs : List Leg) → stays a b ≡ true → boats a (b ∷ bs) ≡ boats b bs
unfolding boats
boats_stay a b bs e = cond-true (stays a b) (boats b bs) (suc (boats b bs)) e

pub boats_board : (a b : Leg) (bs : List Leg) → stays a b ≡ false → boats a (b ∷ bs) ≡ suc (boats b bs)
unfolding boats
boats_board a b bs e = cond-false (stays a b) (boats b bs) (suc (boats b bs)) e

pub boats_tail : (a b : Leg) (bs : List Leg) → boats b bs ≤ boats a (b ∷ bs)
boats_tail a b bs =
    ⊎_elim (λ e. omega (arith, boats_stay a b bs e)) (λ e. omega (arith, boats_board a b bs e)) (cases_Bool (stays a b))

pub boats_head : (a b : Leg) (bs : List Leg) → boats a (b ∷ bs) ≤ suc (boats b bs)
boats_head a b bs =
    ⊎_elim (λ e. omega (arith, boats_stay a b bs e)) (λ e. omega (arith, boats_board a b bs e)) (cases_Bool (stays a b))

pub boats_some : (a : Leg) (bs : List Leg) → 1 ≤ boats a bs
boats_some a [] = omega (arith, boats_none a)
boats_some a (b ∷ bs) = omega (arith, boats_some b bs, boats_tail a b bs)

-- two chains that begin with the same two legs differ as their tails do
pub boats_like : (n : ℕ) (a b : Leg) (bs cs : List Leg) → boats b bs ≤ n + boats b cs →
    boats a (b ∷ bs) ≤ n + boats a (b ∷ cs)
boats_like n a b bs cs h =
    ⊎_elim
    (λ e. omega (arith, boats_stay a b bs e, boats_stay a b cs e))
    (λ e. omega (arith, boats_board a b bs e, boats_board a b cs e))
    (cases_Bool (stays a b))

-- two chains, one behind the other

pub joined_append : (p : Plan) (a : Leg) (xs : List Leg) (b : Leg) (bs : List Leg) →
    joined p a xs ≡ true → joined p (last a xs) (b ∷ bs) ≡ true → joined p a (xs ++ b ∷ bs) ≡ true
joined_append p a [] b bs e f = subst (λ (l : Leg). joined p l (b ∷ bs) ≡ true) (last_none a) f
joined_append p a (c ∷ cs) b bs e f =
    let l = joined_says p a c cs e in
    let g = subst (λ (x : Leg). joined p x (b ∷ bs) ≡ true) (last_more a c cs) f in
    joined_on p a c (cs ++ b ∷ bs) l (joined_append p c cs b bs l.linked g)

pub joined_append_parts : (p : Plan) (a : Leg) (xs : List Leg) (b : Leg) (bs : List Leg) →
    joined p a (xs ++ b ∷ bs) ≡ true → (joined p a xs ≡ true) × (joined p (last a xs) (b ∷ bs) ≡ true)
joined_append_parts p a [] b bs e = (joined_none p a, subst (λ (l : Leg). joined p l (b ∷ bs) ≡ true) (sym (last_none a)) e)
joined_append_parts p a (c ∷ cs) b bs e =
    let l = joined_says p a c (cs ++ b ∷ bs) e in
    let x = joined_append_parts p c cs b bs l.linked in (
      joined_on p a c cs l x.0,
      subst (λ (y : Leg). joined p y (b ∷ bs) ≡ true) (sym (last_more a c cs)) x.1,
    )

pub last_append : (a : Leg) (xs : List Leg) (b : Leg) (bs : List Leg) → last a (xs ++ b ∷ bs) ≡ last b bs
unfolding last
last_append a [] b bs = refl
last_append a (c ∷ cs) b bs = last_append c cs b bs

-- their boats add up, but for the one that is shared where one stays aboard between them

pub boats_append : (a : Leg) (xs : List Leg) (b : Leg) (bs : List Leg) → stays (last a xs) b ≡ false →
    boats a (xs ++ b ∷ bs) ≡ boats a xs + boats b bs
unfolding last boats
boats_append a [] b bs n = grind arith
boats_append a (c ∷ cs) b bs n = let ih = boats_append c cs b bs n in grind arith

pub boats_append_stay : (a : Leg) (xs : List Leg) (b : Leg) (bs : List Leg) → stays (last a xs) b ≡ true →
    boats a (xs ++ b ∷ bs) + 1 ≡ boats a xs + boats b bs
unfolding last boats
boats_append_stay a [] b bs n = grind arith
boats_append_stay a (c ∷ cs) b bs n = let ih = boats_append_stay c cs b bs n in grind arith

pub boats_append_le : (a : Leg) (xs : List Leg) (b : Leg) (bs : List Leg) → boats a (xs ++ b ∷ bs) ≤ boats a xs + boats b bs
boats_append_le a xs b bs =
    ⊎_elim
    (λ e. omega (arith, boats_append_stay a xs b bs e))
    (λ e. omega (arith, boats_append a xs b bs e))
    (cases_Bool (stays (last a xs) b))

-- a chain one leg longer

pub joined_snoc : (p : Plan) (a : Leg) (xs : List Leg) (b : Leg) → joined p a xs ≡ true →
    follows p (last a xs) b ≡ true → in_plan b p.legs ≡ true → runs b ≡ true → joined p a (xs ++ b ∷ []) ≡ true
joined_snoc p a xs b e f i r =
    let link : Link p (last a xs) b [] = record { follow = f; known = i; going = r; linked = joined_none p b } in
    joined_append p a xs b [] e (joined_more p (last a xs) b [] link)

pub last_snoc : (a : Leg) (xs : List Leg) (b : Leg) → last a (xs ++ b ∷ []) ≡ b
last_snoc a xs b = last_append a xs b [] ∙ last_none b

pub boats_snoc_stay : (a : Leg) (xs : List Leg) (b : Leg) → stays (last a xs) b ≡ true →
    boats a (xs ++ b ∷ []) ≡ boats a xs
boats_snoc_stay a xs b e = omega (arith, boats_append_stay a xs b [] e, boats_none b)

pub boats_snoc_board : (a : Leg) (xs : List Leg) (b : Leg) → stays (last a xs) b ≡ false →
    boats a (xs ++ b ∷ []) ≡ suc (boats a xs)
boats_snoc_board a xs b e = omega (arith, boats_append a xs b [] e, boats_none b)

-- time does not run back along a chain
pub joined_le : (p : Plan) (a : Leg) (bs : List Leg) → runs a ≡ true → joined p a bs ≡ true →
    a.leaves ≤ (last a bs).comes
joined_le p a [] r e = let l = last_none a in grind (arith, nat_tests)
joined_le p a (b ∷ bs) r e =
    let l = joined_says p a b bs e in
    let f = follows_le p a b l.follow in
    let ih = joined_le p b bs l.going l.linked in
    let m = last_more a b bs in
    grind (arith, nat_tests)

-- a journey with other legs behind its first, and one that sets out earlier
pub journey_on : {p : Plan} {s t : ℕ} {a : Leg} {bs : List Leg} (cs : List Leg) → Journey p s t a bs →
    joined p a cs ≡ true → Journey p s t a cs
journey_on cs j e = record { begun = j.begun; known = j.known; going = j.going; linked = e }

pub journey_earlier : {p : Plan} {s t : ℕ} {a : Leg} {bs : List Leg} (v : ℕ) → v ≤ t → Journey p s t a bs →
    Journey p s v a bs
journey_earlier {p} {s} {t} {a} v h j =
    record { begun = begins_earlier p s t v a h j.begun; known = j.known; going = j.going; linked = j.linked }

pub journey_le : {p : Plan} {s t : ℕ} {a : Leg} {bs : List Leg} → Journey p s t a bs → t ≤ (last a bs).comes
journey_le {p} {s} {t} {a} {bs} j =
    omega (arith, begins_le p s t a j.begun, joined_le p a bs j.going j.linked)

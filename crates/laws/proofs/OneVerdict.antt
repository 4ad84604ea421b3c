-- A journey told by the names of its legs has one verdict.
use Rattle.std.proofs.Common.{◌≡◌, ℕ, suc, ◌<◌, ◌≤◌, true, List, [], ◌∷◌, map, length, take, Some, None, Ok, Err, Option, sym, refl, ap, ◌∙◌, subst, ⊎_elim, arith}
use Rattle.std.proofs.lemmas.List.{take-take}
use Rattle.std.proofs.lemmas.Bool.{cases_lt}
use Rattle.std.specs.List.{AllByRecursion}
use Rattle.plan.specs.declared.leg.Leg.{Leg}
use Rattle.plan.specs.Legs.{Plan, name}
use Rattle.plan.specs.declared.name.LegName.{LegName}
use Rattle.journey.specs.declared.checking.Broken.{Broken}
use Rattle.marks.proofs.Marks.{mark_ext}
use Rattle.journey.specs.Journeys.{in_plan, joined, boats, last, Journey, NamedOnce}
use Rattle.journey.specs.Checked.{EarliestEnd, Goes, Reaching, Breaking}
use Rattle.journey.specs.Checked.Reaching.{on_no_boat, by_boat}
use Rattle.journey.specs.Checked.Breaking.{at_first, at_leg, at_no_end, on_no_foot}
use Rattle.journey.proofs.Naming.{same_named}
use Rattle.journey.proofs.Chains.{joined_says}
use Rattle.journey.proofs.Trails.{goes_take}
use Rattle.laws.specs.JourneyLaws.{OneVerdict}

-- ---- how far the names go
--
-- A beginning of the names of a journey's legs is one too. So there is one place as far as which the names are those of
-- a journey and no further: names that go as far as a later place go on at the earlier one. A journey that reaches the
-- pier goes as far as its last name, and one that breaks goes as far as the place where it breaks.

no_journey : {p : Plan} {s t : ℕ} {first : Leg} {rest : List Leg} → Goes p s t [] first rest → ⊥
no_journey g = let e = g.named in let z : ◌≡◌ {A = ℕ} 0 1 = cc in omega arith

-- the first n names are those of a journey's legs
record Through (p : Plan) (s t : ℕ) (names : List LegName) (n : ℕ) : Type 0 where
  first : Leg
  rest : List Leg
  goes : Goes p s t (take n names) first rest

-- the names are those of a journey as far as the place i, and no further
record AsFarAs (p : Plan) (s t : ℕ) (names : List LegName) (i : ℕ) : Type 0 where
  within : i ≤ length names
  so_far : (j : ℕ) → j < i → Through p s t names (suc j)
  no_further : i < length names → Through p s t names (suc i) → ⊥

-- Of two such places neither is before the other: the names would go on at the first, as far as the second.
far_not_less : {p : Plan} {s t : ℕ} {names : List LegName} {i j : ℕ} → AsFarAs p s t names i →
    AsFarAs p s t names j → i < j → ⊥
far_not_less {i = i} x y h = x.no_further (omega (arith, y.within)) (y.so_far i h)

far_same : {p : Plan} {s t : ℕ} {names : List LegName} (i j : ℕ) → AsFarAs p s t names i → AsFarAs p s t names j →
    i ≡ j
far_same i j x y =
    ⊎_elim
    (λ h. absurd (far_not_less x y h))
    (λ h. ⊎_elim (λ l. absurd (far_not_less y x l)) (λ l. omega arith) (cases_lt j i))
    (cases_lt i j)

module _ (p : Plan) (s t : ℕ) where
  -- all names are those of a journey
  far_all : {names : List LegName} {first : Leg} {rest : List Leg} → Goes p s t names first rest →
      AsFarAs p s t names (length names)
  far_all {names} {first} {rest} g = record {
    within = omega arith;
    so_far = λ j l. record { first = first; rest = take j rest; goes = goes_take j g };
    no_further = λ l. absurd (omega arith);
  }

  far_none : (names : List LegName) → names ≡ [] → AsFarAs p s t names 0
  far_none names e = record {
    within = omega arith;
    so_far = λ j l. absurd (omega arith);
    no_further = λ l. absurd (omega (arith, ap length e));
  }

  far_first : (names : List LegName) → 0 < length names → (Through p s t names 1 → ⊥) → AsFarAs p s t names 0
  far_first names h never = record {
    within = omega arith;
    so_far = λ j l. absurd (omega arith);
    no_further = λ _. never;
  }

  far_at : (names : List LegName) (i : ℕ) {first : Leg} {rest : List Leg} → i < length names →
      Goes p s t (take i names) first rest → (Through p s t names (suc i) → ⊥) → AsFarAs p s t names i
  far_at names i {first} {rest} h g never = record {
    within = omega arith;
    so_far = λ j l. record {
      first = first;
      rest = take j rest;
      goes = subst (λ (ns : List LegName). Goes p s t ns first (take j rest))
          (take-take (suc j) i names (omega arith)) (goes_take j g);
    };
    no_further = λ _. never;
  }

  reaching_far : {d : ℕ} {names : List LegName} {u k : ℕ} → Reaching p s t d names u k →
      AsFarAs p s t names (length names)
  reaching_far (on_no_boat e) = far_none [] refl
  reaching_far (by_boat first rest g e) = far_all g

  breaking_far : {d : ℕ} {names : List LegName} {i : ℕ} → Breaking p s t d names i → AsFarAs p s t names i
  breaking_far {names = names} (at_first h never) = far_first names h (λ x. never x.first x.rest x.goes)
  breaking_far {names = names} {i = i} (at_leg first rest h g never) =
      far_at names i h g (λ x. never x.first x.rest x.goes)
  breaking_far (at_no_end first rest g e) = far_all g
  breaking_far {names = names} (on_no_foot h e) = far_none names h

-- ---- where the names have all been gone through
--
-- Run and number name one leg, so the legs of the journey are known from their names, and with them its last leg and its
-- boats. From the last leg there is one earliest time at the pier, or none at all.

earliest_same : (p : Plan) (d s t : ℕ) (o o₁ : Option ℕ) → EarliestEnd p d s t o → EarliestEnd p d s t o₁ → o ≡ o₁
earliest_same p d s t None None e f = refl
earliest_same p d s t None (Some v) e f = absurd (e v f.0)
earliest_same p d s t (Some u) None e f = absurd (f u e.0)
earliest_same p d s t (Some u) (Some v) e f =
    let there = e.1 v f.0 in
    let back = f.1 u e.0 in
    let is : u ≡ v = omega arith in
    ap Some is

-- when one is at the pier at the earliest, if at all, after all legs of these names, and with how many boats
data Ended (p : Plan) (s t d : ℕ) (names : List LegName) (o : Option ℕ) (k : ℕ) : Type 0 where
  ended_on_foot : names ≡ [] → k ≡ 0 → EarliestEnd p d s t o → Ended p s t d names o k
  ended_by_boat : (first : Leg) (rest : List Leg) → Goes p s t names first rest → k ≡ boats first rest →
      EarliestEnd p d (last first rest).to (last first rest).comes o → Ended p s t d names o k

-- names name legs: legs of the plan that have the same names are the same
pub legs_same : (ls : List Leg) → NamedOnce ls → (xs ys : List Leg) → AllByRecursion (λ a. in_plan a ls ≡ true) xs →
    AllByRecursion (λ a. in_plan a ls ≡ true) ys → map name xs ≡ map name ys → xs ≡ ys
legs_same ls once [] [] i j e = refl
legs_same ls once [] (y ∷ ys) i j e = let z : ◌≡◌ {A = ℕ} 0 1 = cc in absurd (omega arith)
legs_same ls once (x ∷ xs) [] i j e = let z : ◌≡◌ {A = ℕ} 0 1 = cc in absurd (omega arith)
legs_same ls once (x ∷ xs) (y ∷ ys) i j e =
    let first : name x ≡ name y = cc in
    let then : map name xs ≡ map name ys = cc in
    let is = once x y i.0 j.0 (same_named x y first) in
    let rest = legs_same ls once xs ys i.1 j.1 then in
    λ k. is k ∷ rest k

-- every leg of a journey is in the plan
pub legs_known : {p : Plan} {s t : ℕ} {a : Leg} {xs : List Leg} → Journey p s t a xs →
    AllByRecursion (λ b. in_plan b p.legs ≡ true) (a ∷ xs)
legs_known {p} {a = a} {xs = xs} j = (j.known, behind a xs j.linked)
  where
    behind : (b : Leg) (bs : List Leg) → joined p b bs ≡ true → AllByRecursion (λ c. in_plan c p.legs ≡ true) bs
    behind b [] e = tt
    behind b (c ∷ cs) e = let l = joined_says p b c cs e in (l.known, behind c cs l.linked)

goes_same : {p : Plan} {s t : ℕ} {names : List LegName} {a b : Leg} {xs ys : List Leg} → NamedOnce p.legs →
    Goes p s t names a xs → Goes p s t names b ys → (a ≡ b) × (xs ≡ ys)
goes_same {p} {a = a} {b = b} {xs = xs} {ys = ys} once g h =
    let same = legs_same p.legs once (a ∷ xs) (b ∷ ys) (legs_known g.made) (legs_known h.made)
    (sym g.named ∙ h.named) in
    (cc, cc)

ended_same : {p : Plan} {s t d : ℕ} {names : List LegName} (o o₁ : Option ℕ) (k k₁ : ℕ) → NamedOnce p.legs →
    Ended p s t d names o k → Ended p s t d names o₁ k₁ → (o ≡ o₁) × (k ≡ k₁)
ended_same {p} {s} {t} {d} o o₁ k k₁ once (ended_on_foot h z e) (ended_on_foot h₁ z₁ e₁) =
    (earliest_same p d s t o o₁ e e₁, z ∙ sym z₁)
ended_same {p} {s} {t} o o₁ k k₁ once (ended_on_foot h z e) (ended_by_boat a xs g z₁ e₁) =
    absurd (no_journey (subst (λ (ns : List LegName). Goes p s t ns a xs) h g))
ended_same {p} {s} {t} o o₁ k k₁ once (ended_by_boat a xs g z e) (ended_on_foot h z₁ e₁) =
    absurd (no_journey (subst (λ (ns : List LegName). Goes p s t ns a xs) h g))
ended_same {p} {d = d} o o₁ k k₁ once (ended_by_boat a xs g z e) (ended_by_boat b ys g₁ z₁ e₁) =
    let same = goes_same once g g₁ in
    let is_last : last a xs ≡ last b ys = λ i. last (same.0 i) (same.1 i) in
    let taken : boats a xs ≡ boats b ys = λ i. boats (same.0 i) (same.1 i) in
    let end = subst (λ (l : Leg). EarliestEnd p d l.to l.comes o) is_last e in
    (earliest_same p d (last b ys).to (last b ys).comes o o₁ end e₁, z ∙ taken ∙ sym z₁)

reaching_ended : {p : Plan} {s t d : ℕ} {names : List LegName} {u k : ℕ} → Reaching p s t d names u k →
    Ended p s t d names (Some u) k
reaching_ended (on_no_boat e) = ended_on_foot refl refl e
reaching_ended (by_boat first rest g e) = ended_by_boat first rest g refl e

breaking_ended : {p : Plan} {s t d : ℕ} {names : List LegName} {i : ℕ} → Breaking p s t d names i → i ≡ length names →
    (k : ℕ) × Ended p s t d names None k
breaking_ended (at_first h never) l = absurd (omega arith)
breaking_ended (at_leg first rest h g never) l = absurd (omega arith)
breaking_ended (at_no_end first rest g e) l = (boats first rest, ended_by_boat first rest g refl e)
breaking_ended (on_no_foot h e) l = (0, ended_on_foot h refl e)

-- ---- the verdict

-- A journey that reaches goes as far as its last name. One that breaks goes as far as the place where it breaks, so if
-- it reaches too, that place is past the last name, and from there it ends at the pier and does not.
not_both : {p : Plan} {s t d : ℕ} {names : List LegName} {u k i : ℕ} → NamedOnce p.legs →
    Reaching p s t d names u k → Breaking p s t d names i → ⊥
not_both {p} {s} {t} {names = names} {u = u} {k = k} {i = i} once x y =
    let at_end = far_same i (length names) (breaking_far p s t y) (reaching_far p s t x) in
    let e = breaking_ended y at_end in
    let same = (ended_same (Some u) None k e.0 once (reaching_ended x) e.1).0 in
    let z : ◌≡◌ {A = ℕ} 0 1 = cc in
    omega arith

broken_same : (b b₁ : Broken) → b.place ≡ b₁.place → b ≡ b₁
broken_same b b₁ e = λ i. record { place = e i }

pub one_verdict : OneVerdict
one_verdict p s t d names (Ok m) (Ok m₁) once x y =
    let same = ended_same (Some m.arrival) (Some m₁.arrival) m.boats m₁.boats once (reaching_ended x) (reaching_ended y) in
    let arrival : m.arrival ≡ m₁.arrival = (let some = same.0 in cc) in
    ap Ok (mark_ext m m₁ arrival same.1)
one_verdict p s t d names (Ok m) (Err b) once x y = absurd (not_both once x y)
one_verdict p s t d names (Err b) (Ok m) once x y = absurd (not_both once y x)
one_verdict p s t d names (Err b) (Err b₁) once x y =
    ap Err (broken_same b b₁ (far_same b.place b₁.place (breaking_far p s t x) (breaking_far p s t y)))

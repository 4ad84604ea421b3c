-- A journey by the names of its legs, leg by leg.
use Rattle.std.proofs.Common.{◌≡◌, ℕ, zero, suc, ◌+◌, ◌-◌, ◌<◌, ◌≤◌, Bool, true, false, cond, List, [], ◌∷◌, ◌++◌, map, length, get_or, take, drop, is_ok, Some, None, Ok, Err, Decides, Option, Result, sym, refl, ap, ◌∙◌, subst, inl, inr, add-one, arith}
use Rattle.std.proofs.lemmas.Bool.{both_ways, cases_Bool, cond-true, cond-false}
use Rattle.std.proofs.lemmas.Bool.Decides.{nat_tests}
use Rattle.std.proofs.lemmas.Grind.{get_or_after_one}
use Rattle.std.proofs.lemmas.List.{take_more, map-append, take_all, take-map, take_rest}
use Rattle.plan.specs.declared.leg.Leg.{Leg}
use Rattle.plan.specs.Legs.{Plan, runs, piers, name}
use Rattle.plan.specs.Sound.{Sound, LegWithin}
use Rattle.journey.specs.declared.checking.Ride.{Ride}
use Rattle.journey.specs.declared.checking.Broken.{Broken}
use Rattle.plan.specs.declared.name.LegName.{LegName}
use Rattle.journey.specs.Steps.{stays, follows, begins}
use Rattle.journey.specs.Journeys.{in_plan, NamedOnce, joined, boats, last}
use Rattle.journey.specs.Checked.{find_leg, only, going_leg, first_leg, next_leg, boats_after, Goes, GoneAlong, EarliestEnd, Reaching, on_no_boat, by_boat, Breaking, at_first, at_leg, at_no_end, on_no_foot, Ridden, Rides}
use Rattle.journey.proofs.PlanLegs.{in_plan_within}
use Rattle.journey.proofs.Naming.{find_found, find_only, same_named, sound_once}
use Rattle.journey.proofs.Chains.{joined_none, joined_says, joined_on, joined_snoc, joined_append_parts, journey_on, last_none, last_snoc, boats_none, boats_snoc_stay, boats_snoc_board}

-- what a test lets through
only_some : (f : Leg → Bool) (o : Option Leg) (a : Leg) → only f o ≡ Some a → (o ≡ Some a) × (f a ≡ true)
only_some f None a e = let z : ◌≡◌ {A = ℕ} 0 1 = cc in absurd (omega arith)
only_some f (Some b) a e = by (f b) refl e
  where
    by : (v : Bool) → f b ≡ v → cond v (Some b) None ≡ Some a → (Some b ≡ Some a) × (f a ≡ true)
    by true g h = (h, (let is : b ≡ a = cc in ap f (sym is) ∙ g))
    by false g h = let z : ◌≡◌ {A = ℕ} 0 1 = cc in absurd (omega arith)

only_pass : (f : Leg → Bool) (a : Leg) → f a ≡ true → only f (Some a) ≡ Some a
only_pass f a e = cond-true (f a) (Some a) None e

-- a leg of that name that runs
record Going (p : Plan) (n : LegName) (a : Leg) : Type 0 where
  known : in_plan a p.legs ≡ true
  going : runs a ≡ true
  is_named : name a ≡ n

going : (p : Plan) (n : LegName) (a : Leg) → going_leg p n ≡ Some a → Going p n a
going p n a e =
    let x = only_some runs (find_leg n p.legs) a e in
    let f = find_found n p.legs a x.0 in
    record { known = f.known; going = x.1; is_named = f.is_named }

-- and it is the one that is found, where run and number name one leg
going_only : (p : Plan) (n : LegName) (a : Leg) → NamedOnce p.legs → in_plan a p.legs ≡ true → runs a ≡ true → name a ≡ n → going_leg p n ≡ Some a
going_only p n a once i r e = ap (only runs) (find_only n p.legs a once i e) ∙ only_pass runs a r

-- ---- the legs of the first i names, the last of which is a, with k boats
pub record Trail (p : Plan) (s t : ℕ) (names : List LegName) (i : ℕ) (a : Leg) (k : ℕ) : Type 0 where
  pub first : Leg
  pub rest : List Leg
  pub goes : Goes p s t (take i names) first rest
  pub is_last : last first rest ≡ a
  pub taken : boats first rest ≡ k
  pub few : k ≤ i
  pub within : LegWithin (piers p) a

boats_after_le : (k : ℕ) (a b : Leg) (i : ℕ) → k ≤ i → boats_after k a b ≤ i + 1
boats_after_le k a b i h = grind (arith, nat_tests)

-- what stands past the end of a list of names
abbrev pub no_name : LegName
no_name = record { run = 0; number = 0 }

module _ (p : Plan) (s t : ℕ) (names : List LegName) where
  front : 0 < length names → take 1 names ≡ get_or names 0 no_name ∷ []
  front h = take_more names 0 no_name h

  pub trail_one : Sound p → (a : Leg) → 0 < length names → first_leg p s t (get_or names 0 no_name) ≡ Some a → Trail p s t names 1 a 1
  trail_one sound a h f =
      let n = get_or names 0 no_name in
      let e = front h in
      let x = only_some (begins p s t) (going_leg p n) a f in
      let g = going p n a x.0 in
      record {
        first = a;
        rest = [];
        goes = record {
          made = record { begun = x.1; known = g.known; going = g.going; linked = joined_none p a };
          named = e ∙ ap (λ m. m ∷ []) (sym g.is_named);
        };
        is_last = last_none a;
        taken = boats_none a;
        few = omega arith;
        within = in_plan_within sound a g.known;
      }

  pub trail_more : Sound p → (i k : ℕ) (a b : Leg) → Trail p s t names i a k → i < length names → next_leg p a (get_or names i no_name) ≡ Some b →
      Trail p s t names (i + 1) b (boats_after k a b)
  trail_more sound i k a b x h f =
      let n = get_or names i no_name in
      let y = only_some (follows p a) (going_leg p n) b f in
      let g = going p n b y.0 in
      let step : follows p (last x.first x.rest) b ≡ true = ap (λ c. follows p c b) x.is_last ∙ y.1 in
      record {
        first = x.first;
        rest = x.rest ++ b ∷ [];
        goes = record {
          made = journey_on (x.rest ++ b ∷ []) x.goes.made (joined_snoc p x.first x.rest b x.goes.made.linked step g.known g.going);
          named = take_more names i no_name h ∙ (λ j. x.goes.named j ++ sym g.is_named j ∷ []) ∙ sym (map-append name (x.first ∷ x.rest) (b ∷ []));
        };
        is_last = last_snoc x.first x.rest b;
        taken = elim (cases_Bool (stays a b)) [
          | inl e ↦ boats_snoc_stay x.first x.rest b (ap (λ c. stays c b) x.is_last ∙ e) ∙ x.taken ∙ sym (cond-true (stays a b) k (k + 1) e)
          | inr e ↦
              boats_snoc_board x.first x.rest b (ap (λ c. stays c b) x.is_last ∙ e) ∙ ap suc x.taken ∙ sym (add-one k)
              ∙ sym (cond-false (stays a b) k (k + 1) e)
        ];
        few = boats_after_le k a b i x.few;
        within = in_plan_within sound b g.known;
      }

-- ---- names that do not go on
--
-- Run and number name one leg of the plan. So legs that have the names of a trail and one name more are the legs of
-- the trail and one leg more, which follows the last of them: then that leg would have been found.
record Longer (p : Plan) (a : Leg) (rest : List Leg) (n : LegName) (x : Leg) (more : List Leg) : Type 0 where
  same : x ≡ a
  next : Leg
  is : more ≡ rest ++ next ∷ []
  is_named : name next ≡ n

one_more : (more : List Leg) (n : LegName) → map name more ≡ n ∷ [] → (c : Leg) × (more ≡ c ∷ []) × (name c ≡ n)
one_more [] n e = let z : ◌≡◌ {A = ℕ} 0 1 = cc in absurd (omega arith)
one_more (c ∷ []) n e = (c, refl, (let f : name c ≡ n = cc in f))
one_more (c ∷ d ∷ more) n e = let z : ◌≡◌ {A = ℕ} 0 1 = cc in absurd (omega arith)

longer : (p : Plan) (a : Leg) (rest : List Leg) (n : LegName) (x : Leg) (more : List Leg) → NamedOnce p.legs →
    in_plan a p.legs ≡ true → joined p a rest ≡ true → in_plan x p.legs ≡ true → joined p x more ≡ true →
    map name (x ∷ more) ≡ map name (a ∷ rest) ++ n ∷ [] → Longer p a rest n x more
longer p a [] n x more once ia ja ix jx e =
    let first : name x ≡ name a = cc in
    let then : map name more ≡ n ∷ [] = cc in
    let c = one_more more n then in
    record { same = once x a ix ia (same_named x a first); next = c.0; is = c.1; is_named = c.2 }
longer p a (b ∷ bs) n x [] once ia ja ix jx e = let z : ◌≡◌ {A = ℕ} 0 1 = cc in absurd (omega arith)
longer p a (b ∷ bs) n x (y ∷ ys) once ia ja ix jx e =
    let first : name x ≡ name a = cc in
    let then : map name (y ∷ ys) ≡ map name (b ∷ bs) ++ n ∷ [] = cc in
    let ka = joined_says p a b bs ja in
    let kx = joined_says p x y ys jx in
    let r = longer p b bs n y ys once ka.known ka.linked kx.known kx.linked then in
    record { same = once x a ix ia (same_named x a first); next = r.next; is = (λ i. r.same i ∷ r.is i); is_named = r.is_named }

module _ (p : Plan) (s t : ℕ) (names : List LegName) (once : NamedOnce p.legs) where
  pub no_first : 0 < length names → first_leg p s t (get_or names 0 no_name) ≡ None → (x : Leg) (more : List Leg) → Goes p s t (take 1 names) x more → ⊥
  no_first h f x more g =
      let n = get_or names 0 no_name in
      let e = front p s t names h in
      let named : name x ∷ map name more ≡ n ∷ [] = sym g.named ∙ e in
      let first : name x ≡ n = cc in
      let found = ap (only (begins p s t)) (going_only p n x once g.made.known g.made.going first) ∙ only_pass (begins p s t) x g.made.begun in
      let z : ◌≡◌ {A = ℕ} 0 1 = (let w : None ≡ Some x = sym f ∙ found in cc) in
      omega arith

  pub no_next : (i k : ℕ) (a : Leg) → Trail p s t names i a k → i < length names → next_leg p a (get_or names i no_name) ≡ None →
      (x : Leg) (more : List Leg) → Goes p s t (take (suc i) names) x more → ⊥
  no_next i k a tr h f x more g =
      let n = get_or names i no_name in
      let named : map name (x ∷ more) ≡ map name (tr.first ∷ tr.rest) ++ n ∷ [] =
      sym g.named ∙ ap (λ m. take m names) (sym (add-one i)) ∙ take_more names i no_name h ∙ ap (λ l. l ++ n ∷ []) tr.goes.named in
      let l = longer p tr.first tr.rest n x more once tr.goes.made.known tr.goes.made.linked g.made.known g.made.linked named in
      let j : joined p tr.first (tr.rest ++ l.next ∷ []) ≡ true = (λ i. joined p (sym l.same i) (sym l.is i)) ∙ g.made.linked in
      let link = joined_says p (last tr.first tr.rest) l.next [] (joined_append_parts p tr.first tr.rest l.next [] j).1 in
      let found = ap (only (follows p a)) (going_only p n l.next once link.known link.going l.is_named)
      ∙ only_pass (follows p a) l.next (ap (λ c. follows p c l.next) (sym tr.is_last) ∙ link.follow) in
      let z : ◌≡◌ {A = ℕ} 0 1 = (let w : None ≡ Some l.next = sym f ∙ found in cc) in
      omega arith

module _ (p : Plan) (s t : ℕ) (names : List LegName) (sound : Sound p) where
  pub no_ride : 0 < length names → first_leg p s t (get_or names 0 no_name) ≡ None → Rides p s t names (Err (record { place = 0 }))
  no_ride h f = (h, λ d. at_first h (no_first p s t names (sound_once sound) h f))

  pub ride_breaks : (i k : ℕ) (a : Leg) → Trail p s t names i a k → i < length names → next_leg p a (get_or names i no_name) ≡ None →
      Rides p s t names (Err (record { place = i }))
  ride_breaks i k a x h f = (h, λ d. at_leg x.first x.rest h x.goes (no_next p s t names (sound_once sound) i k a x h f))

-- the names after the first, by their places among all
pub name_behind : (names : List LegName) (i : ℕ) →
    get_or names (i + 1) no_name ≡ get_or (take (length names - 1) (drop 1 names)) i no_name
name_behind names i =
    let z : i + 1 ≡ 1 + i = omega arith in
    ap (λ k. get_or names k no_name) z ∙ sym (get_or_after_one names i no_name)
    ∙ ap (λ ns. get_or ns i no_name) (sym (take_rest names 1))

-- ---- all names, or a beginning of them
pub ridden : {p : Plan} {s t : ℕ} {names : List LegName} {i : ℕ} {a : Leg} {k : ℕ} → Trail p s t names i a k →
    i ≡ length names → Ridden p s t names (record { last = a; boats = k })
ridden {p} {s} {t} {names} {i} x all = record {
  first = x.first;
  rest = x.rest;
  goes = subst (λ ns. Goes p s t ns x.first x.rest) (take_all i names (omega arith)) x.goes;
  is_last = x.is_last;
  taken = x.taken;
  in_time = x.within.comes;
}

-- a beginning of a chain is a chain
joined_take : (p : Plan) (n : ℕ) (a : Leg) (bs : List Leg) → joined p a bs ≡ true → joined p a (take n bs) ≡ true
joined_take p zero a bs e = joined_none p a
joined_take p (suc n) a [] e = e
joined_take p (suc n) a (b ∷ bs) e =
    let l = joined_says p a b bs e in
    joined_on p a b (take n bs) l (joined_take p n b bs l.linked)

-- the first of a journey's names are those of a journey, of its first legs
pub goes_take : {p : Plan} {s t : ℕ} {names : List LegName} {first : Leg} {rest : List Leg} (n : ℕ) →
    Goes p s t names first rest → Goes p s t (take (suc n) names) first (take n rest)
goes_take {p} {first = first} {rest = rest} n g = record {
  made = journey_on (take n rest) g.made (joined_take p n first rest g.made.linked);
  named = ap (take (suc n)) g.named ∙ ap (λ (ns : List LegName). name first ∷ ns) (take-map name n rest);
}

-- names that break at one of them are those of no journey
not_along : {p : Plan} {s t d : ℕ} {names : List LegName} {i : ℕ} → Breaking p s t d names i → i < length names →
    GoneAlong p s t names → ⊥
not_along (at_first h never) l g = never g.0 (take 0 g.1.0) (goes_take 0 g.1.1)
not_along {i = i} (at_leg first rest h _ never) l g = never g.0 (take i g.1.0) (goes_take i g.1.1)
not_along (at_no_end first rest _ e) l g = omega arith
not_along (on_no_foot h e) l g = omega (arith, ap length h)

pub rides_decides : (p : Plan) (s t : ℕ) (names : List LegName) (r : Result Ride Broken) → Rides p s t names r →
    Decides (is_ok r) (GoneAlong p s t names)
rides_decides p s t names (Ok r) x = ((λ _. (x.first, (x.rest, x.goes))), (λ _. refl))
rides_decides p s t names (Err b) x =
    ((λ e. absurd (both_ways false refl e)), (λ g. absurd (not_along (x.1 0) x.0 g)))

-- ---- what is told at the end
module _ (p : Plan) (s t d : ℕ) (names : List LegName) where
  no_names : (ns : List LegName) → length ns < 1 → ns ≡ []
  no_names [] h = refl
  no_names (n ∷ ns) h = absurd (omega arith)

  pub there_on_foot : (u : ℕ) → length names < 1 → EarliestEnd p d s t (Some u) → Reaching p s t d names u 0
  there_on_foot u none e = subst (λ ns. Reaching p s t d ns u 0) (sym (no_names names none)) (on_no_boat e)

  pub broken_on_foot : length names < 1 → EarliestEnd p d s t None → Breaking p s t d names 0
  broken_on_foot none e = on_no_foot (no_names names none) e

  pub there_by_boat : (u : ℕ) (r : Ride) → Ridden p s t names r → EarliestEnd p d r.last.to r.last.comes (Some u) →
      Reaching p s t d names u r.boats
  there_by_boat u r x e =
      subst (λ n. Reaching p s t d names u n) x.taken
      (by_boat x.first x.rest x.goes (subst (λ c. EarliestEnd p d c.to c.comes (Some u)) (sym x.is_last) e))

  pub broken_at_end : (r : Ride) → Ridden p s t names r → EarliestEnd p d r.last.to r.last.comes None →
      Breaking p s t d names (length names)
  broken_at_end r x e =
      at_no_end x.first x.rest x.goes (subst (λ c. EarliestEnd p d c.to c.comes None) (sym x.is_last) e)

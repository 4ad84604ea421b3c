-- Legs by their names.
use Rattle.std.proofs.Common.{◌≡◌, ℕ, Bool, true, false, cond, ◌&&◌, eqb, ◌⊎◌, List, [], ◌∷◌, map, length, get_or, Some, sym, refl, ap, ◌∙◌, subst, inl, inr, arith}
use Rattle.std.specs.List.{find, range_with_len}
use Rattle.std.proofs.lemmas.List.FromFn.{fill_by_all}
use Rattle.std.proofs.lemmas.Bool.{and_parts, and_from, eqb-true, eq-eqb, both_ways}
use Rattle.plan.specs.declared.leg.Leg.{Leg}
use Rattle.plan.specs.Legs.{Plan, no_leg, leg, same_name, name}
use Rattle.plan.specs.Sound.{Sound}
use Rattle.plan.specs.declared.name.LegName.{LegName}
use Rattle.journey.specs.Journeys.{in_plan, NamedOnce}
use Rattle.journey.specs.Checked.{find_leg}
use Rattle.journey.proofs.PlanLegs.{in_plan_place, in_plan_first, in_plan_later, in_plan_cases, in_plan_none}

abbrev pub named : LegName → Leg → Bool
named n a = eqb a.run n.run && eqb a.number n.number

-- a search of the legs by their places in the plan
find_all : (n : LegName) (ls : List Leg) → find (named n) ls ≡ find_leg n ls
unfolding find_leg
find_all n [] = refl
find_all n (a ∷ ls) = ap (cond (named n a) (Some a)) (find_all n ls)

pub find_by_place : (n : LegName) (ls : List Leg) →
    find (named n) (map (λ i. get_or ls i no_leg) (range_with_len 0 (length ls))) ≡ find_leg n ls
find_by_place n ls =
    ap (find (named n)) (sym (fill_by_all (λ i. get_or ls i no_leg) ls (length ls) no_leg refl (λ k _. refl)))
    ∙ find_all n ls

-- ---- the leg that is found has the name, and is the only one that has it
name_is : (n : LegName) (a : Leg) → named n a ≡ true → name a ≡ n
name_is n a e =
    let b = and_parts (eqb a.run n.run) (eqb a.number n.number) e in
    λ i. record { run = eqb-true _ _ b.0 i; number = eqb-true _ _ b.1 i }

pub record Found (n : LegName) (ls : List Leg) (a : Leg) : Type 0 where
  pub known : in_plan a ls ≡ true
  pub is_named : name a ≡ n

pub find_found : (n : LegName) (ls : List Leg) (a : Leg) → find_leg n ls ≡ Some a → Found n ls a
unfolding find_leg
find_found n [] a e = let z : ◌≡◌ {A = ℕ} 0 1 = cc in absurd (omega arith)
find_found n (b ∷ ls) a e = by (find_found n ls a) (named n b) refl e
  where
    by : (find_leg n ls ≡ Some a → Found n ls a) → (v : Bool) → named n b ≡ v → cond v (Some b) (find_leg n ls) ≡ Some a → Found n (b ∷ ls) a
    by ih true f g = let is : b ≡ a = cc in subst (Found n (b ∷ ls)) is (record { known = in_plan_first b ls; is_named = name_is n b f })
    by ih false f g = let x = ih g in record { known = in_plan_later a b ls x.known; is_named = x.is_named }

named_back : (n : LegName) (a : Leg) → name a ≡ n → named n a ≡ true
named_back n a e = and_from _ _ (eq-eqb _ _ (ap (λ (m : LegName). m.run) e)) (eq-eqb _ _ (ap (λ (m : LegName). m.number) e))

pub same_named : (a b : Leg) → name a ≡ name b → same_name a b ≡ true
same_named a b e = and_from _ _ (eq-eqb _ _ (ap (λ (m : LegName). m.run) e)) (eq-eqb _ _ (ap (λ (m : LegName). m.number) e))

some_found : (n : LegName) (ls : List Leg) (b : Leg) → in_plan b ls ≡ true → name b ≡ n → (a : Leg) × (find_leg n ls ≡ Some a)
unfolding find_leg
some_found n [] b i e = let z = in_plan_none b in let w : true ≡ false = sym i ∙ z in absurd (both_ways true w refl)
some_found n (c ∷ ls) b i e = by (some_found n ls b) (named n c) refl (in_plan_cases b c ls i)
  where
    by : (in_plan b ls ≡ true → name b ≡ n → (a : Leg) × (find_leg n ls ≡ Some a)) → (v : Bool) → named n c ≡ v → (b ≡ c) ⊎ (in_plan b ls ≡ true) →
        (a : Leg) × (cond v (Some c) (find_leg n ls) ≡ Some a)
    by ih true f o = (c, refl)
    by ih false f (inl is) = absurd (both_ways (named n c) f (named_back n c (ap name (sym is) ∙ e)))
    by ih false f (inr j) = ih j e

-- run and number name one leg, so the leg of a name is the one that is found
pub find_only : (n : LegName) (ls : List Leg) (b : Leg) → NamedOnce ls → in_plan b ls ≡ true → name b ≡ n → find_leg n ls ≡ Some b
find_only n ls b once i e =
    let x = some_found n ls b i e in
    let f = find_found n ls x.0 x.1 in
    let is : x.0 ≡ b = once x.0 b f.known i (same_named x.0 b (f.is_named ∙ sym e)) in
    x.1 ∙ ap Some is

-- in a sound plan run and number name one leg
pub sound_once : {p : Plan} → Sound p → NamedOnce p.legs
sound_once {p} s a b i j e =
    let x = in_plan_place a p.legs i in
    let y = in_plan_place b p.legs j in
    let h = and_parts _ _ e in
    let run : (leg p x.place).run ≡ (leg p y.place).run =
    ap (λ (c : Leg). c.run) x.is ∙ eqb-true _ _ h.0 ∙ ap (λ (c : Leg). c.run) (sym y.is) in
    let number : (leg p x.place).number ≡ (leg p y.place).number =
    ap (λ (c : Leg). c.number) x.is ∙ eqb-true _ _ h.1 ∙ ap (λ (c : Leg). c.number) (sym y.is) in
    sym x.is ∙ ap (leg p) (s.apart x.place y.place x.within y.within run number) ∙ y.is

-- Legs by run and number: whether there is one, and the legs without it.
use Rattle.std.proofs.Common.{◌≡◌, ℕ, zero, suc, ◌+◌, ◌<◌, ◌≤◌, Bool, true, false, cond, not, ◌||◌, eqb, List, [], ◌∷◌, ◌++◌, length, get_or, take, drop, is_some, MatchOption, Some, None, filter, Option, sym, refl, ap, ◌∙◌, inl, inr, arith, drop-cons}
use Rattle.std.specs.List.{remove}
use Rattle.std.proofs.lemmas.List.Elements.{filter-append}
use Rattle.std.proofs.lemmas.List.{get_or-take, get_or-drop, take-append-drop, length-drop, length-take-le}
use Rattle.std.proofs.lemmas.Bool.{cases_Bool, and_parts, eqb-true, both_ways, cond-true, not_from_false}
use Rattle.std.proofs.lemmas.Bool.Decides.{nat_tests}
use Rattle.plan.specs.declared.leg.Leg.{Leg}
use Rattle.plan.specs.declared.name.LegName.{LegName}
use Rattle.plan.specs.Legs.{Plan, leg, no_leg}
use Rattle.plan.specs.Sound.{Sound}
use Rattle.updates.specs.Updates.{named, known, Found, without}

-- ---- some leg has the name exactly if one at a place has it
known_never : (n : LegName) (ls : List Leg) → ((i : ℕ) → i < length ls → named n (get_or ls i no_leg) ≡ false) → known n ls ≡ false
unfolding known
known_never n [] h = refl
known_never n (a ∷ ls) h =
    let here = h 0 (omega arith) in
    let later = known_never n ls (λ i l. h (suc i) (omega arith)) in
    grind (arith, nat_tests)

pub known_here : (n : LegName) (ls : List Leg) (i : ℕ) → i < length ls → named n (get_or ls i no_leg) ≡ true →
    known n ls ≡ true
unfolding known
known_here n [] i h e = absurd (omega arith)
known_here n (a ∷ ls) zero h e = ap (λ b. b || known n ls) e
known_here n (a ∷ ls) (suc i) h e = let on = known_here n ls i (omega arith) e in grind (arith, nat_tests)

pub not_known : (n : LegName) (ls : List Leg) → known n ls ≡ false → (i : ℕ) → i < length ls →
    named n (get_or ls i no_leg) ≡ false
not_known n ls e i h = elim (cases_Bool (named n (get_or ls i no_leg))) [
  | inl t ↦ absurd (both_ways (known n ls) e (known_here n ls i h t))
  | inr f ↦ f
]

pub known_place : (n : LegName) (ls : List Leg) → known n ls ≡ true →
    (i : ℕ) × ((i < length ls) × (named n (get_or ls i no_leg) ≡ true))
unfolding known
known_place n [] e = absurd (both_ways false refl e)
known_place n (a ∷ ls) e = by (known_place n ls) (named n a) refl e
  where
    by : (known n ls ≡ true → (i : ℕ) × ((i < length ls) × (named n (get_or ls i no_leg) ≡ true))) → (v : Bool) →
        named n a ≡ v → v || known n ls ≡ true →
        (i : ℕ) × ((i < suc (length ls)) × (named n (get_or (a ∷ ls) i no_leg) ≡ true))
    by on true f g = (0, (omega arith, f))
    by on false f g = let x = on g in (suc x.0, (omega (arith, x.1.0), x.1.1))

pub found_known : (p : Plan) (n : LegName) (o : Option ℕ) → Found p n o → is_some o ≡ known n p.legs
found_known p n None e = sym e
found_known p n (Some i) e = sym (known_here n p.legs i e.0 e.1)

-- the first of that name, if there is one, is what a search finds
pub found_first : (p : Plan) (n : LegName) (many : ℕ) (o : Option ℕ) → many ≡ length p.legs →
    MatchOption o ((i : ℕ) → 0 ≤ i → i < many → named n (leg p i) ≡ false)
    (λ i. (0 ≤ i) × (i < many) × (named n (leg p i) ≡ true) × ((k : ℕ) → 0 ≤ k → k < i → named n (leg p k) ≡ false)) →
    Found p n o
found_first p n many None e h = known_never n p.legs (λ i l. h i (omega arith) (omega arith))
found_first p n many (Some i) e h = (omega (arith, h.1), h.2)

-- ---- the legs without the one of that name: run and number name one leg, so only that one is gone
pub names_say : (n : LegName) (a : Leg) → named n a ≡ true → (a.run ≡ n.run) × (a.number ≡ n.number)
names_say n a e =
    let b = and_parts (eqb a.run n.run) (eqb a.number n.number) e in
    (eqb-true _ _ b.0, eqb-true _ _ b.1)

keeps_all : (test : Leg → Bool) (ls : List Leg) → ((i : ℕ) → i < length ls → test (get_or ls i no_leg) ≡ true) →
    filter test ls ≡ ls
keeps_all test [] h = refl
keeps_all test (a ∷ ls) h =
    cond-true (test a) (a ∷ filter test ls) (filter test ls) (h 0 (omega arith))
    ∙ ap (λ t. a ∷ t) (keeps_all test ls (λ i l. h (suc i) (omega arith)))

pub without_is : (p : Plan) (n : LegName) (i : ℕ) → Sound p → i < length p.legs → named n (leg p i) ≡ true →
    without n p.legs ≡ remove p.legs i
without_is p n i s h e =
    ap (filter other) (sym (take-append-drop i ls) ∙ ap (λ t. take i ls ++ t) (drop-cons ls i no_leg h))
    ∙ filter-append other (take i ls) (leg p i ∷ drop (suc i) ls)
    ∙ (λ j. low j ++ gone j)
  where
    ls : List Leg
    ls = p.legs

    other : Leg → Bool
    other a = not (named n a)

    apart : (j : ℕ) → j < length ls → (j ≡ i → ⊥) → other (leg p j) ≡ true
    apart j l d = elim (cases_Bool (named n (leg p j))) [
      | inl t ↦
          let a = names_say n (leg p i) e in
          let b = names_say n (leg p j) t in
          absurd (d (s.apart j i l h (b.0 ∙ sym a.0) (b.1 ∙ sym a.1)))
      | inr f ↦ not_from_false _ f
    ]

    low : filter other (take i ls) ≡ take i ls
    low = keeps_all other (take i ls) (λ j l.
        let long = length-take-le i ls (omega arith) in
        ap other (get_or-take i ls j no_leg (omega arith)) ∙ apart j (omega arith) (λ q. omega arith))

    gone : filter other (leg p i ∷ drop (suc i) ls) ≡ drop (suc i) ls
    gone =
        ap (λ b. cond (not b) (leg p i ∷ filter other (drop (suc i) ls)) (filter other (drop (suc i) ls))) e
        ∙ keeps_all other (drop (suc i) ls) (λ j l.
        let long = length-drop (suc i) ls in
        ap other (get_or-drop (suc i) ls j no_leg) ∙ apart (suc i + j) (omega arith) (λ q. omega arith))

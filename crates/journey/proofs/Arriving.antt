-- The earliest arrival at a pier: at once, or by the walk that is there first.
use Rattle.std.proofs.Common.{◌≡◌, ℕ, ◌+◌, ◌≤◌, min, true, false, ◌⊎◌, List, [], ◌∷◌, map, length, get_or, Some, None, Option, sym, refl, ap, ◌∙◌, subst, inl, inr, arith}
use Rattle.std.specs.List.{fold, reduce, filter_map, cons_option, range_with_len}
use Rattle.std.proofs.lemmas.Bool.{cases_lt, cases_Bool, cond-true, cond-false, false≢true, or_cases, or_left, or_right}
use Rattle.std.proofs.lemmas.Bool.Decides.{nat_tests}
use Rattle.plan.specs.declared.walk.Walk.{Walk}
use Rattle.plan.specs.Legs.{Plan, walk, no_walk}
use Rattle.journey.specs.Steps.{leads, walks_to}
use Rattle.journey.specs.Journeys.{Ends, at_once, on_foot}
use Rattle.journey.specs.Checked.{between, there_by, EarliestEnd}
use Rattle.journey.proofs.Walking.{ends_le, ends_cases, walked, walks_at, walks_to_none, walks_to_more, walks_placed}

-- ---- the least of some numbers

abbrev least_of : ℕ → Option ℕ → ℕ
least_of x None = x
least_of x (Some y) = min x y

fold_min : (x : ℕ) (xs : List ℕ) → fold min x xs ≡ least_of x (reduce min xs)
fold_min x [] = refl
fold_min x (y ∷ ys) = by (reduce min ys) (fold_min (min x y) ys) (fold_min y ys)
  where
    by : (o : Option ℕ) → fold min (min x y) ys ≡ least_of (min x y) o → fold min y ys ≡ least_of y o →
        fold min (min x y) ys ≡ min x (fold min y ys)
    by None e f = omega arith
    by (Some z) e f = omega arith

module _ (s t d : ℕ) where
  times : List Walk → List ℕ
  times ws = filter_map (λ w. there_by w s t d) ws

  -- some walk is there at that time and none before it, or none leads there at all
  abbrev First : List Walk → Option ℕ → Type 0
  First ws None = (u : ℕ) → walks_to ws s t d u ≡ true → ⊥
  First ws (Some u) = (walks_to ws s t d u ≡ true) × ((v : ℕ) → walks_to ws s t d v ≡ true → u ≤ v)

  leads_by : (w : Walk) (u : ℕ) → leads w s t d u ≡ true → (between w s d ≡ true) × (t + w.takes ≤ u)
  leads_by w u e = (grind (arith, nat_tests), grind (arith, nat_tests))

  leads_at : (w : Walk) (u : ℕ) → between w s d ≡ true → t + w.takes ≤ u → leads w s t d u ≡ true
  leads_at w u e l = grind (arith, nat_tests)

  more_cases : (w : Walk) (ws : List Walk) (u : ℕ) → walks_to (w ∷ ws) s t d u ≡ true → (leads w s t d u ≡ true) ⊎ (walks_to ws s t d u ≡ true)
  more_cases w ws u e = or_cases _ _ (sym (walks_to_more w ws s t d u) ∙ e)

  more_first : (w : Walk) (ws : List Walk) (u : ℕ) → leads w s t d u ≡ true → walks_to (w ∷ ws) s t d u ≡ true
  more_first w ws u e = walks_to_more w ws s t d u ∙ or_left _ _ e

  more_later : (w : Walk) (ws : List Walk) (u : ℕ) → walks_to ws s t d u ≡ true → walks_to (w ∷ ws) s t d u ≡ true
  more_later w ws u e = walks_to_more w ws s t d u ∙ or_right _ _ e

  -- one walk more, which does not lead there
  first_skip : (w : Walk) (ws : List Walk) (o : Option ℕ) → between w s d ≡ false → First ws o → First (w ∷ ws) o
  first_skip w ws None n f = λ u e. elim (more_cases w ws u e) [
    | inl l ↦ false≢true (sym n ∙ (leads_by w u l).0)
    | inr r ↦ f u r
  ]
  first_skip w ws (Some u) n f = (
    more_later w ws u f.0,
    λ v e. elim (more_cases w ws v e) [
      | inl l ↦ absurd (false≢true (sym n ∙ (leads_by w v l).0))
      | inr r ↦ f.1 v r
    ],
  )

  -- and one that does
  first_more : (w : Walk) (ws : List Walk) (o : Option ℕ) → between w s d ≡ true → First ws o →
      First (w ∷ ws) (Some (least_of (t + w.takes) o))
  first_more w ws None b f = (
    more_first w ws _ (leads_at w _ b (omega arith)),
    λ v e. elim (more_cases w ws v e) [ inl l ↦ (leads_by w v l).1 | inr r ↦ absurd (f v r) ],
  )
  first_more w ws (Some u) b f = (
    elim (cases_lt u (t + w.takes)) [
      | inl less ↦ more_later w ws _ (subst (λ v. walks_to ws s t d v ≡ true) (omega arith) f.0)
      | inr more ↦ more_first w ws _ (leads_at w _ b (omega arith))
    ],
    λ v e. elim (more_cases w ws v e) [
      | inl l ↦ omega (arith, (leads_by w v l).1)
      | inr r ↦ omega (arith, f.1 v r)
    ],
  )

  first_of : (ws : List Walk) → First ws (reduce min (times ws))
  unfolding times
  first_of [] = λ u e. false≢true (sym (walks_to_none s t d u) ∙ e)
  first_of (w ∷ ws) = elim (cases_Bool (between w s d)) [
    | inl b ↦
        subst (First (w ∷ ws))
        (sym (ap (λ o. reduce min (cons_option o (times ws))) (cond-true (between w s d) (Some (t + w.takes)) None b) ∙ ap Some (fold_min (t + w.takes) (times ws))))
        (first_more w ws (reduce min (times ws)) b (first_of ws))
    | inr n ↦
        subst (First (w ∷ ws))
        (sym (ap (λ o. reduce min (cons_option o (times ws))) (cond-false (between w s d) (Some (t + w.takes)) None n)))
        (first_skip w ws (reduce min (times ws)) n (first_of ws))
  ]

  -- the walks of a plan, by their places
  times_map : (f : ℕ → Walk) (js : List ℕ) → filter_map (λ j. there_by (f j) s t d) js ≡ times (map f js)
  unfolding times
  times_map f [] = refl
  times_map f (j ∷ js) = ap (cons_option (there_by (f j) s t d)) (times_map f js)

  times_by_place : (ws : List Walk) → filter_map (λ j. there_by (get_or ws j no_walk) s t d) (range_with_len 0 (length ws)) ≡ times ws
  times_by_place ws = times_map (λ j. get_or ws j no_walk) (range_with_len 0 (length ws)) ∙ ap times (walks_placed ws)

-- who is not at the pier is there by the first walk
first_end : (p : Plan) (d s t : ℕ) (o : Option ℕ) → (s ≡ d → ⊥) → First s t d p.walks o → EarliestEnd p d s t o
first_end p d s t None apart f = λ u x. elim (ends_cases x) [ inl at ↦ apart at.0 | inr on ↦ f u on ]
first_end p d s t (Some u) apart f =
    let w = walked p.walks s t d u f.0 in
    let no_later = f.1 (t + (walk p w.place).takes) (walks_at p.walks s t d _ w.place w.within w.from w.to (omega arith)) in (
      subst (Ends p d s t) (omega (arith, w.in_time)) (on_foot w.place w.within w.from w.to),
      λ v x. elim (ends_cases x) [ inl at ↦ absurd (apart at.0) | inr on ↦ f.1 v on ],
    )

pub end_on_foot : (p : Plan) (d s t : ℕ) (o : Option ℕ) → (s ≡ d → ⊥) →
    o ≡ reduce min (filter_map (λ j. there_by (walk p j) s t d) (range_with_len 0 (length p.walks))) → EarliestEnd p d s t o
end_on_foot p d s t o apart e =
    subst (EarliestEnd p d s t) (sym (e ∙ ap (reduce min) (times_by_place s t d p.walks)))
    (first_end p d s t (reduce min (times s t d p.walks)) apart (first_of s t d p.walks))

-- who is there already is so at once
pub end_at_once : (p : Plan) (d s t : ℕ) → s ≡ d → EarliestEnd p d s t (Some t)
end_at_once p d s t e = (subst (λ k. Ends p d k t t) (sym e) at_once, λ v x. ends_le x)

-- Legs that a delay touches are written anew, one after the other.
use Rattle.std.proofs.Common.{◌≡◌, ℕ, ◌+◌, ◌-◌, ◌<◌, ◌≤◌, Bool, true, false, List, ◌++◌, map, length, get_or, take, drop, set, is_ok, MatchOption, Option, Some, None, Ok, Err, sym, refl, ap, ◌∙◌, subst, arith}
use Rattle.std.proofs.lemmas.List.Edits.{map_over_more}
use Rattle.std.proofs.lemmas.List.{append-nil, get_or-append_right, get_or-drop, get_or_default, length-append, length-drop, length-map, length-take-le, set-get_or, take_all, drop_all}
use Rattle.std.proofs.lemmas.Bool.{cond-true, cond-false}
use Rattle.std.proofs.lemmas.Bool.Decides.{nat_tests}
use Rattle.plan.specs.declared.leg.Leg.{Leg}
use Rattle.plan.specs.declared.name.LegName.{LegName}
use Rattle.plan.specs.declared.refusal.Refusal.{Refusal}
use Rattle.plan.specs.declared.refusal.Refusal.TheVariants.{TooLate}
use Rattle.plan.specs.Check.{first_not}
use Rattle.plan.specs.Legs.{Plan, leg, no_leg, with_legs, time_bound}
use Rattle.plan.specs.Words.{Whole, plan_in, words, written}
use Rattle.plan.proofs.Firsts.{all_below_all, all_below_from, first_not_all, first_not_hit, first_not_ok}
use Rattle.plan.proofs.ReadBack.{length_words, read_written}
use Rattle.plan.proofs.LegWords.{written_same}
use Rattle.plan.proofs.Written.{written_over, whole_written}
use Rattle.updates.specs.declared.update.Update.TheVariants.{Delay}
use Rattle.updates.specs.Updates.{touched, later, delayed_leg, delayed, in_time, update_checked}

module _ (n : LegName) (d : ℕ) (xs : List ℕ) where
  abbrev ls : List Leg
  ls = (plan_in xs).legs

  -- the first i legs are delayed, the others are as they were
  abbrev half : ℕ → List Leg
  half i = map (delayed_leg n d) (take i ls) ++ drop i ls

  abbrev pub Halfway : ℕ → List ℕ → Type 0
  Halfway i ys = ys ≡ written (with_legs (plan_in xs) (half i)) xs

  length_half : (i : ℕ) → i ≤ length ls → length (half i) ≡ length ls
  length_half i h =
      length-append (map (delayed_leg n d) (take i ls)) (drop i ls)
      ∙ omega (arith, length-map (take i ls) (delayed_leg n d), length-take-le i ls h, length-drop i ls)

  half_at : (i : ℕ) → i < length ls → get_or (half i) i no_leg ≡ get_or ls i no_leg
  half_at i h =
      let e : i + (i - i) ≡ i = omega arith in
      get_or-append_right (map (delayed_leg n d) (take i ls)) (drop i ls) i i no_leg
      (length-map (take i ls) (delayed_leg n d) ∙ length-take-le i ls (omega arith)) (omega arith)
      ∙ get_or-drop i ls (i - i) no_leg ∙ ap (λ j. get_or ls j no_leg) e

  pub delay_none : Whole xs → Halfway 0 xs
  delay_none whole = sym (written_same xs whole)

  module _ (i : ℕ) (ys : List ℕ) (so_far : Halfway i ys) where
    pub half_whole : Whole ys
    half_whole = subst Whole (sym so_far) (whole_written (with_legs (plan_in xs) (half i)) xs)

    half_plan : plan_in ys ≡ with_legs (plan_in xs) (half i)
    half_plan = ap plan_in so_far ∙ read_written (with_legs (plan_in xs) (half i)) xs

    pub half_within : i < length ls → i < length (plan_in ys).legs
    half_within h = omega (arith, ap (λ (p : Plan). length p.legs) half_plan, length_half i (omega arith))

    pub half_leg : i < length ls → leg (plan_in ys) i ≡ leg (plan_in xs) i
    half_leg h = ap (λ (p : Plan). leg p i) half_plan ∙ half_at i h

    module _ (h : i < length ls) (a : Leg) (read : a ≡ leg (plan_in ys) i) where
      is_leg : a ≡ get_or (half i) i no_leg
      is_leg = read ∙ ap (λ (p : Plan). leg p i) half_plan

      more : set (half i) i (delayed_leg n d a) ≡ half (i + 1)
      more =
          let long = length_half i (omega arith) in
          map_over_more (delayed_leg n d) ls (half i) i a h refl
          (is_leg ∙ get_or_default (half i) i no_leg a (omega arith))

      pub delay_skip : touched n a ≡ false → Halfway (i + 1) ys
      delay_skip miss =
          let same : a ≡ delayed_leg n d a = sym (cond-false (touched n a) (later d a) a miss) in
          let stays : half i ≡ half (i + 1) =
          sym (set-get_or (half i) i no_leg) ∙ ap (set (half i) i) (sym is_leg ∙ same) ∙ more in
          so_far ∙ ap (λ t. written (with_legs (plan_in xs) t) xs) stays

      pub delay_more : (b : Leg) (zs : List ℕ) → touched n a ≡ true → b ≡ later d a →
          zs ≡ written (with_legs (plan_in ys) (set (plan_in ys).legs i b)) ys → Halfway (i + 1) zs
      delay_more b zs hit made put =
          let same : b ≡ delayed_leg n d a = made ∙ sym (cond-true (touched n a) (later d a) a hit) in
          let p₁ = with_legs (plan_in xs) (half i) in
          let p₂ = with_legs (plan_in xs) (half (i + 1)) in
          let size : length (words p₁) ≤ length (words p₂) =
          omega (
            arith,
            length_words p₁,
            length_words p₂,
            length_half i (omega arith),
            length_half (i + 1)
                (omega arith),
          ) in
          put
          ∙ (λ j. written (with_legs (half_plan j) (set (half_plan j).legs i (same j))) (so_far j))
          ∙ ap (λ t. written (with_legs (plan_in xs) t) (written p₁ xs)) more
          ∙ written_over p₁ p₂ xs size

  pub delay_all : (i : ℕ) (ys : List ℕ) → i ≡ length ls → Halfway i ys →
      ys ≡ written (with_legs (plan_in xs) (delayed n d ls)) xs
  delay_all i ys all so_far =
      let end : half i ≡ delayed n d ls =
      (λ j. map (delayed_leg n d) (take_all i ls (omega arith) j) ++ drop_all i ls (omega arith) j) ∙ append-nil
      (delayed n d ls) in
      so_far ∙ ap (λ t. written (with_legs (plan_in xs) t) xs) end

-- ---- a search for the first leg that is too late
abbrev pub Sought : (ℕ → Bool) → ℕ → Option ℕ → Type 0
Sought f n o =
    MatchOption o ((i : ℕ) → 0 ≤ i → i < n → f i ≡ true)
    (λ i. (0 ≤ i) × (i < n) × (f i ≡ false) × ((k : ℕ) → 0 ≤ k → k < i → f k ≡ true))

pub sought_none : (f : ℕ → Bool) (e : ℕ → Refusal) (n m : ℕ) (o : Option ℕ) → n ≡ m → o ≡ None → Sought f n o →
    Ok tt ≡ first_not f e m
sought_none f e n m o many none s =
    let h = subst (Sought f n) none s in
    sym (first_not_all f e m (all_below_from f m (λ k l. h k (omega arith) (omega arith))))

pub sought_some : (f : ℕ → Bool) (e : ℕ → Refusal) (n m : ℕ) (o : Option ℕ) (i : ℕ) → n ≡ m → o ≡ Some i → Sought f n o →
    (i < m) × (Err (e i) ≡ first_not f e m)
sought_some f e n m o i many some s =
    let h = subst (Sought f n) some s in
    let below : i < m = omega (arith, h.1) in
    (below, sym (first_not_hit f e i m below (first_not_all f e i (all_below_from f i (λ k l. h.3 k (omega arith) l))) h.2))

-- ---- no leg is too late, so each can be written
module _ (p : Plan) (n : LegName) (d : ℕ) (h : update_checked p (Delay n d) ≡ Ok tt) (i : ℕ) (l : i < length p.legs) where
  abbrev test : ℕ → Bool
  test j = in_time n d (leg p j)

  pub leg_in_time : in_time n d (leg p i) ≡ true
  leg_in_time =
      all_below_all test (length p.legs) (sym (first_not_ok test TooLate (length p.legs)) ∙ ap is_ok h) i l

  pub times_within : (a : Leg) → a ≡ leg p i → touched n a ≡ true →
      (a.leaves + d < time_bound) × (a.comes + d < time_bound)
  times_within a e hit =
      let t : in_time n d a ≡ true = ap (in_time n d) e ∙ leg_in_time in
      (grind (arith, nat_tests), grind (arith, nat_tests))

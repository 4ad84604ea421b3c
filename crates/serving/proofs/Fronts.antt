-- The fronts of rows, cut by the counts of a plan that is checked.
use Rattle.std.proofs.Common.{◌≡◌, ℕ, ◌≤◌, Bool, List, ◌++◌, length, take, sym, ◌∙◌, subst, arith, length-take}
use lib.Seq.{take-append-le}
use Rattle.std.proofs.lemmas.List.{take_all}
use Rattle.plan.specs.declared.leg.Leg.{Leg}
use Rattle.plan.specs.declared.walk.Walk.{Walk}
use Rattle.plan.specs.Legs.{Plan, piers}
use Rattle.plan.specs.Words.{plan_end}
use Rattle.plan.specs.Sound.{Few, Usable}
use Rattle.plan.proofs.Parts.{count_piers, count_legs, count_walks}
use Rattle.rounds.specs.Opened.{plan_of, Room}
use Rattle.rounds.specs.Layout.{Laid, Alike}
use Rattle.serving.specs.Kept.{front, Kept}

-- what the rows cut at these lengths say
pub record Cut (p : Plan) (legs : List Leg) (joins : List Bool) (walks : List Walk) (change first link : List ℕ) : Type 0 where
  pub alike : Alike p (plan_of legs walks change)
  pub laid : Laid (plan_of legs walks change) joins first link
  pub few : Few (plan_of legs walks change)

module _ (p : Plan) (legs : List Leg) (joins : List Bool) (walks : List Walk) (change first link : List ℕ) where
  pub kept_cut : Few p → Kept p legs joins walks change first link → (n w s : ℕ) →
      length p.legs ≡ n → length p.walks ≡ w → piers p ≡ s →
      Cut p (take n legs) (take n joins) (take w walks) (take s change) (take s first) (take w link)
  kept_cut f k n w s en ew es =
      let here : Cut p (take (length p.legs) legs) (take (length p.legs) joins) (take (length p.walks) walks)
      (take (piers p) change) (take (piers p) first) (take (length p.walks) link) = record {
        alike = k.alike;
        laid = k.laid;
        few = record {
          piers = simp length-take (omega (arith, f.piers));
          legs = simp length-take (omega (arith, f.legs));
          walks = simp length-take (omega (arith, f.walks));
        };
      } in
      subst (λ x. Cut p (take n legs) (take n joins) (take w walks) (take x change) (take x first) (take w link)) es
      (subst (λ x. Cut p (take n legs) (take n joins) (take x walks) (take (piers p) change) (take (piers p) first) (take x link)) ew
      (subst (λ x. Cut p (take x legs) (take x joins) (take (length p.walks) walks) (take (piers p) change) (take (piers p) first) (take (length p.walks) link)) en here))

-- the front of a row is what stands before the rest
pub front_is : {A : Type 0} (n : ℕ) (xs ys : List A) → length xs ≡ n → xs ≡ take n (xs ++ ys)
front_is n xs ys e = sym (take-append-le n xs ys (omega arith) ∙ take_all n xs (omega arith))

-- rows that a plan was laid out at the front of
module _ (p : Plan) (legs ls : List Leg) (joins js : List Bool) (walks ws : List Walk) (change cs first fs link ks : List ℕ) where
  pub kept_laid : length legs ≡ length p.legs → length joins ≡ length p.legs → length walks ≡ length p.walks →
      length change ≡ piers p → length first ≡ piers p → length link ≡ length p.walks →
      Alike p (plan_of legs walks change) → Laid (plan_of legs walks change) joins first link →
      Kept p (legs ++ ls) (joins ++ js) (walks ++ ws) (change ++ cs) (first ++ fs) (link ++ ks)
  kept_laid el ej ew ec ef ek alike laid =
      let is : plan_of legs walks change ≡ front p (legs ++ ls) (walks ++ ws) (change ++ cs) =
      λ i. plan_of (front_is (length p.legs) legs ls el i) (front_is (length p.walks) walks ws ew i)
      (front_is (piers p) change cs ec i) in
      record {
        alike = subst (λ x. Alike p x) is alike;
        laid =
            subst (λ x. Laid (front p (legs ++ ls) (walks ++ ws) (change ++ cs)) (take (length p.legs) (joins ++ js))
            (take (piers p) (first ++ fs)) x) (front_is (length p.walks) link ks ek)
            (subst (λ x. Laid (front p (legs ++ ls) (walks ++ ws) (change ++ cs)) (take (length p.legs) (joins ++ js)) x link)
            (front_is (piers p) first fs ef)
            (subst (λ x. Laid (front p (legs ++ ls) (walks ++ ws) (change ++ cs)) x first link) (front_is (length p.legs) joins js ej)
            (subst (λ x. Laid x joins first link) is laid)));
      }

-- the fronts of rows that have room for any plan are as long as the plan asks
module _ (p : Plan) (legs : List Leg) (joins : List Bool) (walks : List Walk) (change first link : List ℕ) (n w s : ℕ) where
  pub room_cut : Few p → n ≡ length p.legs → w ≡ length p.walks → s ≡ piers p →
      length legs ≡ 1024 → length joins ≡ 1024 → length walks ≡ 256 → length change ≡ 64 → length first ≡ 64 → length link ≡ 256 →
      Room p (take n legs) (take n joins) (take w walks) (take s change) (take s first) (take w link)
  room_cut f en ew es el ej ek ec ef eh = record {
    few_legs = simp length-take (omega (arith, f.legs));
    few_walks = simp length-take (omega (arith, f.walks));
    legs_long = simp length-take (omega (arith, f.legs));
    joins_long = simp length-take (omega (arith, f.legs));
    walks_long = simp length-take (omega (arith, f.walks));
    change_long = simp length-take (omega (arith, f.piers));
    first_long = simp length-take (omega (arith, f.piers));
    link_long = simp length-take (omega (arith, f.walks));
  }

-- the words of an office have room for any plan that may be used
pub plan_fits : (xs : List ℕ) → Usable xs → plan_end xs ≤ 6979
plan_fits xs u =
    let f = u.few in
    omega (arith, count_piers xs u.whole, count_legs xs, count_walks xs, f.piers, f.legs, f.walks)

-- The same plan with its legs in another order has the same journeys, and the same answers.
use Rattle.std.proofs.Common.{◌≡◌, ℕ, true, List, [], ◌∷◌, length, Ok, Err, Result, sym, subst}
use Rattle.plan.specs.declared.leg.Leg.{Leg}
use Rattle.plan.specs.declared.refusal.Refusal.{Refusal}
use Rattle.plan.specs.Legs.{Plan, piers}
use Rattle.journey.specs.declared.question.Question.{Question}
use Rattle.journey.specs.Journeys.{in_plan, joined, Ends, Journey, Reached}
use Rattle.journey.specs.Journeys.Ends.{at_once, on_foot}
use Rattle.journey.specs.Journeys.Reached.{without_boat, by_legs}
use Rattle.journey.proofs.Chains.{joined_none, joined_says, joined_more}
use Rattle.marks.specs.declared.mark.Mark.{Mark}
use Rattle.marks.specs.Answers.{AnswerOf}
use Rattle.rounds.specs.declared.query.Query.{Query}
use Rattle.rounds.specs.Layout.{Alike}
use Rattle.rounds.specs.Query.{query_checked}
use Rattle.rounds.specs.Entry.{Reply, AnsweredBy}

-- ---- other legs, among which are all those of the plan
abbrev with_legs : Plan → List Leg → Plan
with_legs p ls = record { legs = ls; walks = p.walks; change = p.change }

module _ (p : Plan) (ls : List Leg) (f : (a : Leg) → in_plan a p.legs ≡ true → in_plan a ls ≡ true) where
  joined_with : (a : Leg) (rest : List Leg) → joined p a rest ≡ true → joined (with_legs p ls) a rest ≡ true
  joined_with a [] e = joined_none (with_legs p ls) a
  joined_with a (b ∷ bs) e =
      let l = joined_says p a b bs e in
      joined_more (with_legs p ls) a b bs (record {
        follow = l.follow;
        known = f b l.known;
        going = l.going;
        linked = joined_with b bs l.linked;
      })

  journey_with : {s t : ℕ} {a : Leg} {rest : List Leg} → Journey p s t a rest → Journey (with_legs p ls) s t a rest
  journey_with {a = a} {rest = rest} j = record {
    begun = j.begun;
    known = f a j.known;
    going = j.going;
    linked = joined_with a rest j.linked;
  }

  ends_with : {d s t u : ℕ} → Ends p d s t u → Ends (with_legs p ls) d s t u
  ends_with at_once = at_once
  ends_with (on_foot j h e g) = on_foot j h e g

  reached_with : {q : Question} {u b : ℕ} → Reached p q u b → Reached (with_legs p ls) q u b
  reached_with (without_boat e) = without_boat (ends_with e)
  reached_with (by_legs first rest j e) = by_legs first rest (journey_with j) (ends_with e)

-- ---- plans alike
module _ {p p₁ : Plan} (s : Alike p p₁) where
  there : with_legs p p₁.legs ≡ p₁
  there = λ i. record { legs = p₁.legs; walks = sym s.walks i; change = sym s.change i }

  here : with_legs p₁ p.legs ≡ p
  here = λ i. record { legs = p.legs; walks = s.walks i; change = s.change i }

  pub journey_alike : {t₀ t : ℕ} {a : Leg} {rest : List Leg} → Journey p₁ t₀ t a rest → Journey p t₀ t a rest
  journey_alike {t₀} {t} {a} {rest} j =
      subst (λ z. Journey z t₀ t a rest) here (journey_with p₁ p.legs s.back j)

  pub journey_alike_back : {t₀ t : ℕ} {a : Leg} {rest : List Leg} → Journey p t₀ t a rest → Journey p₁ t₀ t a rest
  journey_alike_back {t₀} {t} {a} {rest} j =
      subst (λ z. Journey z t₀ t a rest) there (journey_with p p₁.legs s.legs j)

  pub reached_alike : {q : Question} {u b : ℕ} → Reached p₁ q u b → Reached p q u b
  reached_alike {q} {u} {b} r = subst (λ z. Reached z q u b) here (reached_with p₁ p.legs s.back r)

  pub reached_alike_back : {q : Question} {u b : ℕ} → Reached p q u b → Reached p₁ q u b
  reached_alike_back {q} {u} {b} r = subst (λ z. Reached z q u b) there (reached_with p p₁.legs s.legs r)

  -- what answers the one answers the other
  pub answer_alike : {q : Question} {most : ℕ} {ms : List Mark} →
      AnswerOf (λ m. Reached p₁ q m.arrival m.boats) most ms →
      AnswerOf (λ m. Reached p q m.arrival m.boats) most ms
  answer_alike {q} {most} {ms} a = record {
    falling = a.falling;
    reached = λ m i. reached_alike (a.reached m i);
    few = a.few;
    all = λ m r h. a.all m (reached_alike_back r) h;
  }

-- what a question is told of the one plan it is told of the other
pub answered_alike : (p p₁ : Plan) → Alike p p₁ → (qs row : List ℕ) (r : Reply) (row₁ : List ℕ) →
    AnsweredBy (query_checked (piers p₁) qs) p₁ row r row₁ → AnsweredBy (query_checked (piers p) qs) p row r row₁
answered_alike p p₁ a qs row r row₁ x =
    by (query_checked (piers p) qs) (subst (λ cs. AnsweredBy (query_checked (length cs) qs) p₁ row r row₁) a.change x)
  where
    by : (o : Result Query Refusal) → AnsweredBy o p₁ row r row₁ → AnsweredBy o p row r row₁
    by (Err e) x = x
    by (Ok q) x = record { marks = x.marks; answer = answer_alike a x.answer; reply = x.reply; after = x.after }

-- The same plan with its legs in another order has the same itineraries.
use Rattle.std.proofs.Common.{◌≡◌, ℕ, List, length, Ok, Err, Result, sym, subst}
use Rattle.plan.specs.declared.leg.Leg.{Leg}
use Rattle.plan.specs.declared.walk.Walk.{Walk}
use Rattle.plan.specs.declared.refusal.Refusal.{Refusal}
use Rattle.plan.specs.Legs.{Plan, piers}
use Rattle.journey.specs.declared.question.Question.{Question}
use Rattle.journey.specs.Journeys.{NamedOnce, Ends}
use Rattle.journey.specs.Journeys.Ends.{at_once, on_foot}
use Rattle.marks.specs.declared.mark.Mark.{Mark}
use Rattle.rounds.specs.declared.query.Query.{Query}
use Rattle.rounds.specs.Entry.{Reply}
use Rattle.rounds.specs.Layout.{Alike}
use Rattle.rounds.specs.Query.{query_checked}
use Rattle.rounds.proofs.Alike.{journey_alike, journey_alike_back, answer_alike}
use Rattle.itinerary.specs.Order.{Reaching, Itinerary}
use Rattle.itinerary.specs.Order.Reaching.{on_foot_alone, by_legs_there}
use Rattle.itinerary.specs.Named.{Written, Named, row_short, not_told, named, NamedBy}

-- only the walks matter for the end of a journey
abbrev with_walks : Plan → List Walk → Plan
with_walks p ws = record { legs = p.legs; walks = ws; change = p.change }

ends_with : {p : Plan} (o : Plan) {d s t u : ℕ} → Ends p d s t u → Ends (with_walks o p.walks) d s t u
ends_with o at_once = at_once
ends_with o (on_foot j h e f) = on_foot j h e f

ends_same : (p o : Plan) → p.walks ≡ o.walks → {d s t u : ℕ} → Ends p d s t u → Ends o d s t u
ends_same p o same {d} {s} {t} {u} e = subst (λ (ws : List Walk). Ends (with_walks o ws) d s t u) same (ends_with o e)

module _ {p p₁ : Plan} (a : Alike p p₁) where
  reaching_alike : {q : Question} {u k : ℕ} {legs : List Leg} → Reaching p₁ q u k legs → Reaching p q u k legs
  reaching_alike (on_foot_alone e) = on_foot_alone (ends_same p₁ p a.walks e)
  reaching_alike (by_legs_there j e is) = by_legs_there (journey_alike a j) (ends_same p₁ p a.walks e) is

  reaching_alike_back : {q : Question} {u k : ℕ} {legs : List Leg} → Reaching p q u k legs → Reaching p₁ q u k legs
  reaching_alike_back (on_foot_alone e) = on_foot_alone (ends_same p p₁ (sym a.walks) e)
  reaching_alike_back (by_legs_there j e is) = by_legs_there (journey_alike_back a j) (ends_same p p₁ (sym a.walks) e) is

  pub itinerary_alike : {q : Question} {u k : ℕ} {legs : List Leg} → Itinerary p₁ q u k legs → Itinerary p q u k legs
  itinerary_alike x = record {
    reaching = reaching_alike x.reaching;
    first = λ others r. x.first others (reaching_alike_back r);
  }

  pub named_once_alike : NamedOnce p.legs → NamedOnce p₁.legs
  named_once_alike once b c i j e = once b c (a.back b i) (a.back c j) e

-- what is told for a mark of the one plan is told of the other
pub named_alike : (p p₁ : Plan) → Alike p p₁ → (qs : List ℕ) (m : Mark) (row : List ℕ) (r : Reply) (row₁ : List ℕ) →
    NamedBy (query_checked (piers p₁) qs) p₁ m row r row₁ → NamedBy (query_checked (piers p) qs) p m row r row₁
named_alike p p₁ a qs m row r row₁ x =
    by (query_checked (piers p) qs) (subst (λ cs. NamedBy (query_checked (length cs) qs) p₁ m row r row₁) a.change x)
  where
    of : (b : Query) → Named p₁ b m row r row₁ → Named p b m row r row₁
    of b (row_short h e f) = row_short h e f
    of b (not_told h ms an no_one e f) = not_told h ms (answer_alike a an) no_one e f
    of b (named h ms an among n w e) =
        let same : Written p b.question m row n row₁ = record {
          legs = w.legs;
          itinerary = itinerary_alike a w.itinerary;
          many = w.many;
          after = w.after;
        } in
        named h ms (answer_alike a an) among n same e

    by : (o : Result Query Refusal) → NamedBy o p₁ m row r row₁ → NamedBy o p m row r row₁
    by (Err e) y = y
    by (Ok b) y = of b y

-- The same plan with its legs in another order is answered the same, in full.
use Rattle.std.proofs.Common.{ℕ, List, length, IfOk, Ok, Err, Result, subst}
use Rattle.std.specs.declared.alloc.AllocError.{AllocError}
use Rattle.plan.specs.declared.refusal.Refusal.{Refusal}
use Rattle.plan.specs.Legs.{Plan, piers}
use Rattle.journey.specs.declared.question.Question.{Question}
use Rattle.marks.specs.declared.mark.Mark.{Mark}
use Rattle.rounds.specs.declared.query.Query.{Query}
use Rattle.rounds.specs.Layout.{Alike}
use Rattle.rounds.specs.Query.{query_checked}
use Rattle.rounds.proofs.Alike.{answer_alike}
use Rattle.itinerary.proofs.SamePlan.{itinerary_alike}
use Rattle.serving.specs.declared.response.Response.{Response}
use Rattle.serving.specs.declared.response.Response.TheVariants.{Marks, Updated, Looked}
use Rattle.serving.specs.Responses.{Itineraries, no_marks, and_mark, Told, AnsweredWith}

module _ {p p₁ : Plan} (a : Alike p p₁) where
  itineraries_alike : {q : Question} {ms : List Mark} {ns : List ℕ} → Itineraries p₁ q ms ns → Itineraries p q ms ns
  itineraries_alike no_marks = no_marks
  itineraries_alike (and_mark so it) = and_mark (itineraries_alike so) (itinerary_alike a it)

  told_alike : {b : Query} {ms : List Mark} {ns : List ℕ} → Told p₁ b ms ns → Told p b ms ns
  told_alike t = record { answer = answer_alike a t.answer; itineraries = itineraries_alike t.itineraries }

  with_alike : (o : Result Query Refusal) (r : Result Response Refusal) → AnsweredWith o p₁ r → AnsweredWith o p r
  with_alike (Err e) r x = x
  with_alike (Ok b) (Ok (Marks f v)) x = told_alike x
  with_alike (Ok b) (Ok Updated) x = x
  with_alike (Ok b) (Ok (Looked w)) x = x
  with_alike (Ok b) (Err e) x = x

  answered_with_alike : (qs : List ℕ) (r : Result Response Refusal) → AnsweredWith (query_checked (piers p₁) qs) p₁ r →
      AnsweredWith (query_checked (piers p) qs) p r
  answered_with_alike qs r x =
      with_alike (query_checked (piers p) qs) r
      (subst (λ cs. AnsweredWith (query_checked (length cs) qs) p₁ r) a.change x)

  -- and so what is made is, if there was memory for it
  pub made_alike : (qs : List ℕ) (r : Result (Result Response Refusal) AllocError) →
      IfOk r (λ b. AnsweredWith (query_checked (piers p₁) qs) p₁ b) → IfOk r (λ b. AnsweredWith (query_checked (piers p) qs) p b)
  made_alike qs (Ok b) x = answered_with_alike qs b x
  made_alike qs (Err e) x = x

-- Whole runs of an office: what it says to each request of a list is right by the plan as it is at that moment.
use Rattle.std.specs.Prelude.{◌≡◌, ℕ, ◌<◌, ◌≤◌, true, List, [], ◌∷◌, length, take, is_ok, Ok, Err, vec_items, Result, Vec, slice_index_or}
use Rattle.std.specs.declared.alloc.Global.{Global}
use Rattle.plan.specs.declared.refusal.Refusal.{Refusal}
use Rattle.plan.specs.Words.{plan_in}
use Rattle.plan.specs.Check.{plan_checked}
use Rattle.plan.specs.Legs.{Plan, piers}
use Rattle.rounds.specs.Query.{query_checked}
use Rattle.updates.specs.declared.update.Update.{Update}
use Rattle.updates.specs.Updates.{after, update_checked}
use Rattle.updates.specs.Still.{given_checked, WordedBy}
use Rattle.serving.specs.declared.request.Request.{Request}
use Rattle.serving.specs.declared.request.Request.TheVariants.{Ask, Apply, Look}
use Rattle.serving.specs.declared.response.Response.{Response}
use Rattle.serving.specs.declared.response.Response.TheVariants.{Marks, Updated, Looked}
use Rattle.serving.specs.Responses.{AnsweredWith}

-- ---- the plan at each moment

-- a plan after updates, one after the other
unfoldable pub day : Plan → List Update → Plan
day p [] = p
day p (u ∷ us) = day (after p u) us

-- an update comes before others if it is done, and counts for nothing if it is refused
abbrev pub if_done : {A : Type 0} → Result Unit Refusal → A → A → A
if_done (Ok _) x y = x
if_done (Err e) x y = y

-- the updates among requests that are done, from a plan on
unfoldable pub done : Plan → List Request → List Update
done p [] = []
done p (Ask qs ∷ rs) = done p rs
done p (Look gs ∷ rs) = done p rs
done p (Apply u ∷ rs) = if_done (update_checked p u) (u ∷ done (after p u) rs) (done p rs)

-- the plan as it is when the request at a place comes: the first plan after the updates before it that were done
abbrev pub plan_at : Plan → List Request → ℕ → Plan
plan_at p rs i = day p (done p (take i rs))

-- it is the plan of some moment: where memory runs out, the requests so far are done and the others are not
pub record Moment (p : Plan) (requests : List Request) (p₁ : Plan) : Type 0 where
  pub place : ℕ
  pub within : place ≤ length requests
  pub is : p₁ ≡ plan_at p requests place

-- the plan after one request
abbrev pub plan_next : Plan → Request → Plan
plan_next p (Ask qs) = p
plan_next p (Look gs) = p
plan_next p (Apply u) = if_done (update_checked p u) (after p u) p

-- ---- what is right to say

-- an update is done, or the first refusal that applies is told
abbrev pub update_response : Result Unit Refusal → Result Response Refusal
update_response (Ok _) = Ok Updated
update_response (Err e) = Err e

-- the word on an itinerary that was given, or its refusal
abbrev pub LookedAt : Plan → List ℕ → Result Response Refusal → Type 0
LookedAt p gs (Ok (Looked w)) = WordedBy (given_checked gs) p gs (Ok w)
LookedAt p gs (Ok (Marks f v)) = ⊥
LookedAt p gs (Ok Updated) = ⊥
LookedAt p gs (Err e) = WordedBy (given_checked gs) p gs (Err e)

-- by a plan this is the right thing to say to a request
abbrev pub Right : Plan → Request → Result Response Refusal → Type 0
Right p (Ask qs) r = AnsweredWith (query_checked (piers p) (vec_items qs)) p r
Right p (Apply u) r = r ≡ update_response (update_checked p u)
Right p (Look gs) r = LookedAt p (vec_items gs) r

-- each request of a list has its response, and each response is right by the plan as it is at that moment
pub record Served (p : Plan) (requests : List Request) (responses : List (Result Response Refusal)) : Type 0 where
  pub each : length responses ≡ length requests
  pub right : (i : ℕ) (r : Request) (a : Result Response Refusal) → i < length requests → slice_index_or requests i r ≡ r → slice_index_or responses i a ≡ a →
      Right (plan_at p requests i) r a

-- what is said of a plan in numbers and of requests to its office: the plan is refused, or the requests are served
abbrev pub ServedFrom : List ℕ → List Request → Result (Vec (Result Response Refusal) Global) Refusal → Type 0
ServedFrom xs requests (Err e) = plan_checked xs ≡ Err e
ServedFrom xs requests (Ok v) = (is_ok (plan_checked xs) ≡ true) × Served (plan_in xs) requests (vec_items v)

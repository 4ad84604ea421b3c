-- Journeys from their last leg back: the last leg, and the list of those before it, from the last to the first.
use Rattle.std.proofs.Common.{◌≡◌, ℕ, suc, ◌+◌, ◌<◌, ◌≤◌, true, false, ◌⊎◌, List, [], ◌∷◌, reverse, sym, refl, ap, ◌∙◌, subst, inl, inr, ⊎_elim, arith}
use mathlib.Core.List.{reverse_aux}
use Rattle.std.proofs.lemmas.Bool.{cases_Bool}
use Rattle.plan.specs.declared.leg.Leg.{Leg}
use Rattle.plan.specs.Legs.{Plan}
use Rattle.journey.specs.declared.question.Question.{Question}
use Rattle.journey.specs.Steps.{stays, boards, begins}
use Rattle.journey.specs.Journeys.{joined, boats, last, Ends, Journey}
use Rattle.journey.specs.Aboard.{Usable, Aboard}
use Rattle.journey.specs.Aboard.AboardBy.{start, stay, board}
use Rattle.journey.proofs.Following.{follows_stay, follows_board, follows_else}
use Rattle.journey.proofs.Chains.{joined_none, joined_says, joined_more, last_none, last_more, boats_none}
use Rattle.journey.proofs.Chains.{Link, boats_stay, boats_board, boats_some}
use Rattle.itinerary.specs.Order.{Reaching}
use Rattle.itinerary.specs.Order.Reaching.{on_foot_alone, by_legs_there}

-- A journey from the pier s at the time t, with so many boats, its last leg, and those before it. Where one can stay it
-- is a stay, so that the boats are exactly those of the journey.
pub data Trail (p : Plan) (s t : ℕ) : ℕ → Leg → List Leg → Type 0 where
  trail_start : {b : Leg} → begins p s t b ≡ true → Usable p b → Trail p s t 1 b []
  trail_stay : {k : ℕ} {a b : Leg} {xs : List Leg} → Trail p s t k a xs → stays a b ≡ true → Usable p b →
      Trail p s t k b (a ∷ xs)
  trail_board : {k : ℕ} {a b : Leg} {xs : List Leg} → Trail p s t k a xs → stays a b ≡ false → boards p a b ≡ true →
      Usable p b → Trail p s t (suc k) b (a ∷ xs)

module _ {p : Plan} {s t : ℕ} where
  pub trail_usable : {k : ℕ} {b : Leg} {xs : List Leg} → Trail p s t k b xs → Usable p b
  trail_usable (trail_start e u) = u
  trail_usable (trail_stay x e u) = u
  trail_usable (trail_board x n e u) = u

  pub trail_some : {k : ℕ} {b : Leg} {xs : List Leg} → Trail p s t k b xs → 0 < k
  trail_some (trail_start e u) = omega arith
  trail_some (trail_stay x e u) = trail_some x
  trail_some (trail_board x n e u) = omega arith

  -- with no leg before the last it is begun with; else one stays aboard from the leg before it, or takes a boat more
  pub trail_none : {k : ℕ} {b : Leg} → Trail p s t k b [] → (k ≡ 1) × (begins p s t b ≡ true)
  trail_none (trail_start e u) = (refl, e)

  pub trail_more : {k : ℕ} {b a : Leg} {xs : List Leg} → Trail p s t k b (a ∷ xs) →
      ((stays a b ≡ true) × Trail p s t k a xs)
      ⊎ ((j : ℕ) × (suc j ≡ k) × (boards p a b ≡ true) × Trail p s t j a xs)
  trail_more (trail_stay x e u) = inl (e, x)
  trail_more (trail_board {k = j} x n e u) = inr (j, refl, e, x)

  -- ---- who made such a journey is aboard of its last leg, and back with no more boats
  pub trail_aboard : {k : ℕ} {b : Leg} {xs : List Leg} → Trail p s t k b xs → Aboard p s t k b
  trail_aboard (trail_start e u) = start (record { enough = omega arith; begun = e }) u
  trail_aboard (trail_stay x e u) = stay (trail_aboard x) e u
  trail_aboard (trail_board x n e u) = board (trail_aboard x) (omega arith) e u

pub record TrailWithin (p : Plan) (s t k : ℕ) (b : Leg) : Type 0 where
  pub taken : ℕ
  pub legs : List Leg
  pub few : taken ≤ k
  pub on : Trail p s t taken b legs

module _ {p : Plan} {s t : ℕ} where
  pub aboard_trail : {k : ℕ} {b : Leg} → Aboard p s t k b → TrailWithin p s t k b
  aboard_trail (start e u) = record { taken = 1; legs = []; few = e.enough; on = trail_start e.begun u }
  aboard_trail (stay {a = a} x e u) =
      let w = aboard_trail x in
      record { taken = w.taken; legs = a ∷ w.legs; few = w.few; on = trail_stay w.on e u }
  aboard_trail (board {a = a} {b = b} x l e u) =
      let w = aboard_trail x in
      ⊎_elim
      (λ h. record { taken = w.taken; legs = a ∷ w.legs; few = omega (arith, w.few); on = trail_stay w.on h u })
      (λ h. record {
        taken = suc w.taken;
        legs = a ∷ w.legs;
        few = omega (arith, w.few);
        on = trail_board w.on h e u;
      })
      (cases_Bool (stays a b))

  -- ---- a journey told forwards is one told back, and the other way round

  -- Legs that are joined behind the last go on with it. Their first leg is the last so far, so that one boat is
  -- counted twice.
  joined_trail : (bs : List Leg) {k : ℕ} {a : Leg} {xs : List Leg} → Trail p s t k a xs → joined p a bs ≡ true →
      (n : ℕ) → suc n ≡ k + boats a bs →
      (zs : List Leg) × (reverse_aux bs (a ∷ xs) ≡ last a bs ∷ zs) × Trail p s t n (last a bs) zs
  joined_trail [] {k} {a} {xs} x j n e =
      let same : k ≡ n = omega (arith, boats_none a) in
      let is = sym (last_none a) in (
        xs,
        ap (λ (b : Leg). b ∷ xs) is,
        subst (λ (b : Leg). Trail p s t n b xs) is
            (subst (λ (m : ℕ). Trail p s t m a xs) same x),
      )
  joined_trail (b ∷ bs) {k} {a} {xs} x j n e =
      let l = joined_says p a b bs j in
      let u : Usable p b = record { known = l.known; going = l.going } in
      let is = sym (last_more a b bs) in
      let (zs, told, on) = ⊎_elim
      (λ h. joined_trail bs (trail_stay x h u) l.linked n (omega (arith, boats_stay a b bs h)))
      (λ h. joined_trail bs (trail_board x h (follows_else p a b l.follow h) u) l.linked n
      (omega (arith, boats_board a b bs h)))
      (cases_Bool (stays a b)) in
      (zs, told ∙ ap (λ (c : Leg). c ∷ zs) is, subst (λ (c : Leg). Trail p s t n c zs) is on)

-- the journey that goes from a trail on with the legs bs
pub record ToldForwards (p : Plan) (s t k : ℕ) (b : Leg) (bs xs : List Leg) : Type 0 where
  pub first : Leg
  pub rest : List Leg
  pub told : reverse_aux xs (b ∷ bs) ≡ first ∷ rest
  pub made : Journey p s t first rest
  pub is_last : last first rest ≡ last b bs
  pub takes : suc (boats first rest) ≡ k + boats b bs

module _ {p : Plan} {s t : ℕ} where
  trail_forwards : {k : ℕ} {b : Leg} {xs : List Leg} (bs : List Leg) → Trail p s t k b xs → joined p b bs ≡ true →
      ToldForwards p s t k b bs xs
  trail_forwards {b = b} bs (trail_start e u) j = record {
    first = b;
    rest = bs;
    told = refl;
    made = record { begun = e; known = u.known; going = u.going; linked = j };
    is_last = refl;
    takes = omega arith;
  }
  trail_forwards {b = b} bs (trail_stay {a = a} x e u) j =
      let follow = follows_stay p a b e in
      let link : Link p a b bs = record { follow = follow; known = u.known; going = u.going; linked = j } in
      let linked = joined_more p a b bs link in
      let w = trail_forwards (b ∷ bs) x linked in
      record {
        first = w.first;
        rest = w.rest;
        told = w.told;
        made = w.made;
        is_last = w.is_last ∙ last_more a b bs;
        takes = omega (arith, w.takes, boats_stay a b bs e);
      }
  trail_forwards {b = b} bs (trail_board {a = a} x n e u) j =
      let follow = follows_board p a b e in
      let link : Link p a b bs = record { follow = follow; known = u.known; going = u.going; linked = j } in
      let linked = joined_more p a b bs link in
      let w = trail_forwards (b ∷ bs) x linked in
      record {
        first = w.first;
        rest = w.rest;
        told = w.told;
        made = w.made;
        is_last = w.is_last ∙ last_more a b bs;
        takes = omega (arith, w.takes, boats_board a b bs n);
      }

-- a journey by boat that reaches a mark, from its last leg back
pub record Back (p : Plan) (q : Question) (u k : ℕ) (legs : List Leg) : Type 0 where
  pub end : Leg
  pub rest : List Leg
  pub told : reverse legs ≡ end ∷ rest
  pub on : Trail p q.from q.time k end rest
  pub ends : Ends p q.to end.to end.comes u

module _ {p : Plan} {q : Question} {u : ℕ} where
  pub reaching_back : {k : ℕ} {legs : List Leg} → 0 < k → Reaching p q u k legs → Back p q u k legs
  reaching_back l (on_foot_alone e) = absurd (omega arith)
  reaching_back {k} l (by_legs_there {first = first} {rest = rest} j e is) =
      let one = trail_start j.begun (record { known = j.known; going = j.going }) in
      let x = joined_trail rest one j.linked k (omega (arith, is)) in
      record { end = last first rest; rest = x.0; told = x.1; on = x.2; ends = e }

  pub back_reaching : {k : ℕ} {b : Leg} {xs : List Leg} → Trail p q.from q.time k b xs →
      Ends p q.to b.to b.comes u → Reaching p q u k (reverse (b ∷ xs))
  back_reaching {k} {b} {xs} x e =
      let w = trail_forwards [] x (joined_none p b) in
      let is : last w.first w.rest ≡ b = w.is_last ∙ last_none b in
      let ends = subst (λ (c : Leg). Ends p q.to c.to c.comes u) (sym is) e in
      let takes : boats w.first w.rest ≡ k = omega (arith, w.takes, boats_none b) in
      subst (Reaching p q u k) (sym w.told) (by_legs_there w.made ends takes)

-- without a boat there are no legs
pub no_boat_no_legs : {p : Plan} {q : Question} {u k : ℕ} {legs : List Leg} → k ≡ 0 → Reaching p q u k legs → legs ≡ []
no_boat_no_legs none (on_foot_alone e) = refl
no_boat_no_legs none (by_legs_there {first = first} {rest = rest} j e is) =
    absurd (omega (arith, is, boats_some first rest))

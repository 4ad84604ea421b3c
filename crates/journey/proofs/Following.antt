-- Steps from one leg to the next, and the first one: what each of them says, and that time does not run back.
use Rattle.std.proofs.Common.{◌≡◌, ℕ, ◌+◌, ◌≤◌, true, false, eqb, ◌⊎◌, inl, inr, ⊎_elim, arith}
use Rattle.std.proofs.lemmas.Bool.{both_ways, or_cases, or_left, or_right, and_parts, eqb-true, leb-true}
use Rattle.std.proofs.lemmas.Bool.Decides.{nat_tests}
use Rattle.plan.specs.declared.leg.Leg.{Leg}
use Rattle.plan.specs.Legs.{Plan}
use Rattle.journey.specs.Steps.{stays, change_for, catches, changes, walks_to, walks, boards, follows, begins}
use Rattle.journey.proofs.Walking.{Walked, walked, walked_back, walks_le, walks_longer}

-- what each step says

pub record Staying (a b : Leg) : Type 0 where
  pub run : a.run ≡ b.run
  pub number : b.number ≡ a.number + 1
  pub pier : b.from ≡ a.to
  pub in_time : a.comes ≤ b.leaves

pub stays_says : (a b : Leg) → stays a b ≡ true → Staying a b
stays_says a b e =
    record {
      run = grind (arith, nat_tests);
      number = grind (arith, nat_tests);
      pier = grind (arith, nat_tests);
      in_time = grind (arith, nat_tests);
    }

-- and the other way round
pub stays_from : (a b : Leg) → Staying a b → stays a b ≡ true
stays_from a b x = grind (arith, nat_tests)

pub record Changing (p : Plan) (a b : Leg) : Type 0 where
  pub pier : b.from ≡ a.to
  pub in_time : a.comes + change_for p a b ≤ b.leaves

pub changes_says : (p : Plan) (a b : Leg) → changes p a b ≡ true → Changing p a b
changes_says p a b e = record { pier = grind (arith, nat_tests); in_time = grind (arith, nat_tests) }

pub changes_from : (p : Plan) (a b : Leg) → Changing p a b → changes p a b ≡ true
changes_from p a b x = grind (arith, nat_tests)

-- who boards another boat has changed or walked

pub boards_cases : (p : Plan) (a b : Leg) → boards p a b ≡ true →
    Changing p a b ⊎ Walked p.walks a.to a.comes b.from b.leaves
boards_cases p a b e =
    ⊎_elim
    (λ h. inl (changes_says p a b h))
    (λ h. inr (walked p.walks _ _ _ _ h))
    (or_cases (changes p a b) (walks p a b) e)

pub boards_change : (p : Plan) (a b : Leg) → Changing p a b → boards p a b ≡ true
boards_change p a b x = or_left (changes p a b) (walks p a b) (changes_from p a b x)

pub boards_walk : (p : Plan) (a b : Leg) → Walked p.walks a.to a.comes b.from b.leaves →
    boards p a b ≡ true
boards_walk p a b x = or_right (changes p a b) (walks p a b) (walked_back p.walks _ _ _ _ x)

-- a leg follows by a stay or by another boat, and where it is no stay it is another boat

pub follows_stay : (p : Plan) (a b : Leg) → stays a b ≡ true → follows p a b ≡ true
follows_stay p a b e = or_left (stays a b) (boards p a b) e

pub follows_board : (p : Plan) (a b : Leg) → boards p a b ≡ true → follows p a b ≡ true
follows_board p a b e = or_right (stays a b) (boards p a b) e

pub follows_else : (p : Plan) (a b : Leg) → follows p a b ≡ true → stays a b ≡ false → boards p a b ≡ true
follows_else p a b e n =
    ⊎_elim (λ h. absurd (both_ways (stays a b) n h)) (λ h. h) (or_cases (stays a b) (boards p a b) e)

-- time does not run back between legs

pub boards_le : (p : Plan) (a b : Leg) → boards p a b ≡ true → a.comes ≤ b.leaves
boards_le p a b e = let w = walks_le p.walks a.to a.comes b.from b.leaves in grind (arith, nat_tests)

pub follows_le : (p : Plan) (a b : Leg) → follows p a b ≡ true → a.comes ≤ b.leaves
follows_le p a b e =
    ⊎_elim (λ h. (stays_says a b h).in_time) (λ h. boards_le p a b h) (or_cases (stays a b) (boards p a b) e)

-- the first leg

pub begins_cases : (p : Plan) (s t : ℕ) (a : Leg) → begins p s t a ≡ true →
    ((a.from ≡ s) × (t ≤ a.leaves)) ⊎ Walked p.walks s t a.from a.leaves
begins_cases p s t a e =
    ⊎_elim
    (λ h. let x = and_parts (eqb a.from s) _ h in inl (eqb-true _ _ x.0, leb-true _ _ x.1))
    (λ h. inr (walked p.walks _ _ _ _ h))
    (or_cases (catches s t a) (walks_to p.walks s t a.from a.leaves) e)

pub begins_here : (p : Plan) (s t : ℕ) (a : Leg) → a.from ≡ s → t ≤ a.leaves → begins p s t a ≡ true
begins_here p s t a e l = grind (arith, nat_tests)

pub begins_walk : (p : Plan) (s t : ℕ) (a : Leg) → Walked p.walks s t a.from a.leaves → begins p s t a ≡ true
begins_walk p s t a x =
    or_right (catches s t a) (walks_to p.walks s t a.from a.leaves) (walked_back p.walks _ _ _ _ x)

pub begins_le : (p : Plan) (s t : ℕ) (a : Leg) → begins p s t a ≡ true → t ≤ a.leaves
begins_le p s t a e = let w = walks_le p.walks s t a.from a.leaves in grind (arith, nat_tests)

-- who sets out earlier can begin with the same leg
pub begins_earlier : (p : Plan) (s t v : ℕ) (a : Leg) → v ≤ t → begins p s t a ≡ true → begins p s v a ≡ true
begins_earlier p s t v a h e =
    let w = walks_longer p.walks s t v a.from a.leaves a.leaves h (omega arith) in
    grind (arith, nat_tests)

-- A journey that goes on from where a leg comes, after the minutes of a change, begins with a leg that follows: it goes
-- from that pier, which is a change, or a walk leads to it, and a walk that starts after the change can start before it.
pub begins_boards : (p : Plan) (a b : Leg) (t : ℕ) → a.comes + change_for p a b ≤ t → begins p a.to t b ≡ true →
    boards p a b ≡ true
begins_boards p a b t h e =
    let w = walks_longer p.walks a.to t a.comes b.from b.leaves b.leaves (omega arith) (omega arith) in
    grind (arith, nat_tests)

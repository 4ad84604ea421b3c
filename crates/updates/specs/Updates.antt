-- Updates of a plan: what each does, when it is refused, and what it leaves in the lent memory.
use Rattle.std.specs.Prelude.{◌≡◌, ℕ, ◌+◌, ◌<◌, Bool, true, false, cond, not, ◌&&◌, ◌||◌, List, [], ◌∷◌, ◌++◌, map, length, Some, None, Ok, Err, filter, Option, Result, ◌==◌, nat_le, nat_lt}
use Rattle.plan.specs.declared.leg.Leg.{Leg}
use Rattle.plan.specs.declared.refusal.Refusal.{Refusal}
use Rattle.plan.specs.declared.refusal.Refusal.TheVariants.{Short, BadLeg, TooLate, Taken, Full, NoLeg}
use Rattle.plan.specs.declared.name.LegName.{LegName}
use Rattle.plan.specs.Legs.{Plan, leg, name, piers, with_legs, leg_within, time_bound}
use Rattle.plan.specs.Words.{plan_in, words, written}
use Rattle.plan.specs.Check.{most_legs, first_not, then, plan_checked}
use Rattle.plan.specs.Sound.{Usable}
use Rattle.rounds.specs.Entry.{Reply}
use Rattle.updates.specs.declared.update.Update.{Update}
use Rattle.updates.specs.declared.update.Update.TheVariants.{Delay, Cancel, Extra}

-- ---- what an update does

-- a delay from the leg of a name on touches the leg: it is of that run, and no earlier in it
abbrev pub touched : LegName → Leg → Bool
touched n a = a.run == n.run && nat_le n.number a.number

-- the leg, d minutes later
abbrev pub later : ℕ → Leg → Leg
later d a = record { run = a.run; number = a.number; from = a.from; to = a.to; leaves = a.leaves + d; comes = a.comes + d }

-- each leg that the delay touches is later, the others are as they were
abbrev pub delayed_leg : LegName → ℕ → Leg → Leg
delayed_leg n d a = cond (touched n a) (later d a) a

abbrev pub delayed : LegName → ℕ → List Leg → List Leg
delayed n d ls = map (delayed_leg n d) ls

-- the leg has the name
abbrev pub named : LegName → Leg → Bool
named n a = a.run == n.run && a.number == n.number

-- some leg has it
unfoldable pub known : LegName → List Leg → Bool
known n [] = false
known n (a ∷ rest) = named n a || known n rest

-- where the leg that has it stands, if there is one
abbrev pub Found : Plan → LegName → Option ℕ → Type 0
Found p n None = known n p.legs ≡ false
Found p n (Some i) = (i < length p.legs) × (named n (leg p i) ≡ true)

-- the legs that have it not
abbrev pub without : LegName → List Leg → List Leg
without n ls = filter (λ a. not (named n a)) ls

-- the plan after an update that is done
abbrev pub after : Plan → Update → Plan
after p (Delay n d) = with_legs p (delayed n d p.legs)
after p (Cancel n) = with_legs p (without n p.legs)
after p (Extra a) = with_legs p (p.legs ++ a ∷ [])

-- ---- when it is refused

-- no time of the leg reaches the bound by the delay
abbrev pub in_time : LegName → ℕ → Leg → Bool
in_time n d a = not (touched n a) || (nat_lt (a.leaves + d) time_bound && nat_lt (a.comes + d) time_bound)

-- by the rules alone, whatever room there is: a delay by the first leg that it would make too late; a leg to cancel that
-- is not there; an extra leg that is out of bounds, or has a name that is taken, or for which there are too many legs
abbrev pub update_checked : Plan → Update → Result Unit Refusal
update_checked p (Delay n d) = first_not (λ i. in_time n d (leg p i)) TooLate (length p.legs)
update_checked p (Cancel n) = cond (known n p.legs) (Ok tt) (Err (NoLeg n.number))
update_checked p (Extra a) =
    cond (not (leg_within (piers p) a)) (Err (BadLeg (length p.legs)))
    (cond (known (name a) p.legs) (Err (Taken a.number))
    (cond (nat_le most_legs (length p.legs)) (Err (Full most_legs)) (Ok tt)))

-- and then for want of room, in memory of n numbers: only an extra leg makes a plan longer
abbrev pub fits_checked : Plan → Update → ℕ → Result Unit Refusal
fits_checked p u n = then (update_checked p u) (λ _. cond (nat_le (length (words (after p u))) n) (Ok tt) (Err Short))

-- over lent memory: first of all the plan may be refused
abbrev pub update_in : List ℕ → Update → Result Unit Refusal
update_in xs u = then (plan_checked xs) (λ _. fits_checked (plan_in xs) u (length xs))

-- ---- what it leaves

-- the memory after an update that was refused, or done
abbrev pub left_by : Result Unit Refusal → List ℕ → Update → List ℕ
left_by (Err e) xs u = xs
left_by (Ok _) xs u = written (after (plan_in xs) u) xs

-- an update of a plan that may be used: what is told of it, the whole memory, and that the plan may still be used
pub record Applied (xs : List ℕ) (u : Update) (r : Result Unit Refusal) (xs₁ : List ℕ) : Type 0 where
  pub result : r ≡ fits_checked (plan_in xs) u (length xs)
  pub memory : xs₁ ≡ left_by r xs u
  pub usable : Usable xs₁

-- what the caller is told: why it was refused, or how many legs the plan now has
abbrev pub told_by : Result Unit Refusal → Plan → Reply
told_by (Err e) p = Err e
told_by (Ok _) p = Ok (length p.legs)

-- an update of the plan in lent memory: the reply, and the whole memory
pub record Updated (xs : List ℕ) (u : Update) (r : Reply) (xs₁ : List ℕ) : Type 0 where
  pub reply : r ≡ told_by (update_in xs u) (after (plan_in xs) u)
  pub memory : xs₁ ≡ left_by (update_in xs u) xs u

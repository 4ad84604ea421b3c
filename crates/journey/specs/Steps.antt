-- What follows what: staying aboard, changing boats, walking; and what a journey can begin with.
use Rattle.std.specs.Prelude.{ℕ, ◌+◌, Bool, false, ◌&&◌, ◌||◌, List, [], ◌∷◌, ◌==◌, nat_le}
use Rattle.plan.specs.declared.leg.Leg.{Leg}
use Rattle.plan.specs.declared.walk.Walk.{Walk}
use Rattle.plan.specs.Legs.{Plan, change_at}

-- one stays aboard: the run's next leg, from where the first comes, and no earlier
abbrev pub stays : Leg → Leg → Bool
stays a b =
    (a.run == b.run) && (b.number == a.number + 1 && (b.from == a.to && nat_le a.comes b.leaves))

-- the minutes that a change from one leg to another takes: those of the pier
abbrev pub change_for : Plan → Leg → Leg → ℕ
change_for p a b = change_at p a.to

-- who is at the pier s at the time t catches the leg
abbrev pub catches : ℕ → ℕ → Leg → Bool
catches s t b = b.from == s && nat_le t b.leaves

-- one changes boats at the pier where the first leg comes
abbrev pub changes : Plan → Leg → Leg → Bool
changes p a b = catches a.to (a.comes + change_for p a b) b

-- the walk leads from the pier s, left at the time t, to the pier d by the time u
abbrev pub leads : Walk → ℕ → ℕ → ℕ → ℕ → Bool
leads w s t d u = w.from == s && (w.to == d && nat_le (t + w.takes) u)

-- some walk leads there
unfoldable pub walks_to : List Walk → ℕ → ℕ → ℕ → ℕ → Bool
walks_to [] s t d u = false
walks_to (w ∷ ws) s t d u = leads w s t d u || walks_to ws s t d u

-- one walks from the pier where the first leg comes to the one that the second goes from
abbrev pub walks : Plan → Leg → Leg → Bool
walks p a b = walks_to p.walks a.to a.comes b.from b.leaves

-- one goes aboard of another boat, by a change or a walk
abbrev pub boards : Plan → Leg → Leg → Bool
boards p a b = changes p a b || walks p a b

-- one leg follows another: one stays aboard for it, or goes aboard of its boat
abbrev pub follows : Plan → Leg → Leg → Bool
follows p a b = stays a b || boards p a b

-- a journey from the pier s at the time t can begin with the leg: one catches it there, or where a walk leads in time
abbrev pub begins : Plan → ℕ → ℕ → Leg → Bool
begins p s t a = catches s t a || walks_to p.walks s t a.from a.leaves

-- An answer that computes: for each count of boats the legs that can be ridden, and the best of the marks they give.
use Rattle.std.specs.Prelude.{ℕ, zero, suc, ◌+◌, Bool, false, cond, not, ◌&&◌, ◌||◌, List, [], ◌∷◌, ◌++◌, ◌==◌, nat_lt}
use Rattle.plan.specs.declared.leg.Leg.{Leg}
use Rattle.plan.specs.declared.walk.Walk.{Walk}
use Rattle.plan.specs.Legs.{Plan, runs}
use Rattle.journey.specs.declared.question.Question.{Question}
use Rattle.journey.specs.Steps.{stays, boards, begins}
use Rattle.marks.specs.declared.mark.Mark.{Mark}
use Rattle.marks.specs.Marks.{no_worse}

-- some leg that runs passes the test
abbrev pub some_leg : List Leg → (Leg → Bool) → Bool
some_leg [] f = false
some_leg (a ∷ rest) f = (runs a && f a) || some_leg rest f

-- The leg is boarded, or stayed aboard for from one that is. Staying aboard takes one number of the run to the next, so
-- that n stays suffice for a leg of the number n.
unfoldable pub aboard : List Leg → (Leg → Bool) → ℕ → Leg → Bool
aboard ls boarded zero b = boarded b
aboard ls boarded (suc n) b = boarded b || some_leg ls (λ a. stays a b && aboard ls boarded n a)

-- the leg is ridden with k + 1 boats, by a journey from the pier s at the time t
unfoldable pub rides : Plan → ℕ → ℕ → ℕ → Leg → Bool
rides p s t zero b = aboard p.legs (begins p s t) b.number b
rides p s t (suc k) b =
    aboard p.legs (λ c. some_leg p.legs (λ a. not (stays a c) && (boards p a c && rides p s t k a))) b.number b

-- the marks at the pier d of who is at the pier s at the time t, with so many boats: by each walk, and by none
abbrev pub marks_on_foot : List Walk → ℕ → ℕ → ℕ → ℕ → List Mark
marks_on_foot [] d s t n = []
marks_on_foot (w ∷ ws) d s t n =
    cond (w.from == s && w.to == d)
    (record { arrival = t + w.takes; boats = n } ∷ marks_on_foot ws d s t n)
    (marks_on_foot ws d s t n)

abbrev pub marks_at : Plan → ℕ → ℕ → ℕ → ℕ → List Mark
marks_at p d s t n =
    cond (s == d)
    (record { arrival = t; boats = n } ∷ marks_on_foot p.walks d s t n)
    (marks_on_foot p.walks d s t n)

-- the marks by each leg that is ridden with k + 1 boats
abbrev pub marks_by : Plan → Question → ℕ → List Leg → List Mark
marks_by p q k [] = []
marks_by p q k (b ∷ bs) =
    cond (runs b && rides p q.from q.time k b)
    (marks_at p q.to b.to b.comes (suc k) ++ marks_by p q k bs)
    (marks_by p q k bs)

-- every mark of at most so many boats
abbrev pub all_marks : Plan → Question → ℕ → List Mark
all_marks p q zero = marks_at p q.to q.from q.time 0
all_marks p q (suc k) = marks_by p q k p.legs ++ all_marks p q k

-- one mark more, in its place, without those that it makes needless; none more, where it is needless itself
abbrev pub add : Mark → List Mark → List Mark
add m [] = m ∷ []
add m (n ∷ ns) =
    cond (no_worse n m) (n ∷ ns)
    (cond (no_worse m n) (add m ns)
    (cond (nat_lt m.boats n.boats) (m ∷ n ∷ ns) (n ∷ add m ns)))

-- of some marks those that are worth telling
abbrev pub best : List Mark → List Mark
best [] = []
best (m ∷ ms) = add m (best ms)

-- the answer to a question, with at most so many boats
abbrev pub answer_of : Plan → ℕ → Question → List Mark
answer_of p most q = best (all_marks p q most)

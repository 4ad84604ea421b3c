-- A small plan on which each rule of journeys shows.
use Rattle.std.specs.Prelude.{◌≡◌, ℕ, true, false, List, [], ◌∷◌}
use Rattle.plan.specs.declared.leg.Leg.{Leg}
use Rattle.plan.specs.Legs.{Plan}
use Rattle.journey.specs.Steps.{stays, changes, walks_to, follows, begins}
use Rattle.journey.specs.Journeys.{in_plan, joined, boats, Journey, Reached}
use Rattle.laws.specs.JourneyLaws.{asked}

-- a run of three legs; it waits five minutes at pier 1, where a change takes ten, and five at pier 2, where it takes three
abbrev pub early : Leg
early = record { run = 0; number = 0; from = 0; to = 1; leaves = 10; comes = 20 }

abbrev pub onward : Leg
onward = record { run = 0; number = 1; from = 1; to = 2; leaves = 25; comes = 35 }

abbrev pub homeward : Leg
homeward = record { run = 0; number = 2; from = 2; to = 3; leaves = 40; comes = 50 }

-- a faster boat that leaves pier 1 with it, and one that leaves later
abbrev pub missed : Leg
missed = record { run = 1; number = 0; from = 1; to = 2; leaves = 25; comes = 30 }

abbrev pub caught : Leg
caught = record { run = 2; number = 0; from = 1; to = 2; leaves = 30; comes = 34 }

-- a boat from pier 3, to which walks lead
abbrev pub across : Leg
across = record { run = 3; number = 0; from = 3; to = 2; leaves = 28; comes = 40 }

-- a leg that does not run, and one that is not in the plan
abbrev pub backward : Leg
backward = record { run = 4; number = 0; from = 1; to = 2; leaves = 40; comes = 39 }

abbrev pub stranger : Leg
stranger = record { run = 5; number = 0; from = 1; to = 2; leaves = 40; comes = 45 }

abbrev pub harbour : Plan
harbour = record {
  legs = early ∷ onward ∷ homeward ∷ missed ∷ caught ∷ across ∷ backward ∷ [];
  walks = record { from = 0; to = 3; takes = 5 } ∷ record { from = 2; to = 4; takes = 7 } ∷
      record { from = 3; to = 4; takes = 5 } ∷ record { from = 1; to = 3; takes = 8 } ∷ [];
  change = 3 ∷ 10 ∷ 3 ∷ 3 ∷ 3 ∷ [];
}

pub record ExamplesStand : Type 0 where
  -- one stays aboard where a change would take longer than the boat waits, and it is one boat
  pub stayed : stays early onward ≡ true
  pub too_short : changes harbour early onward ≡ false
  pub one_boat : boats early (onward ∷ []) ≡ 1
  pub by_staying : Reached harbour (asked 0 10 2) 35 1
  -- where one could change too, it is a stay all the same
  pub stayed_too : stays onward homeward ≡ true
  pub changed_too : changes harbour onward homeward ≡ true
  pub still_one_boat : boats early (onward ∷ homeward ∷ []) ≡ 1
  -- another boat that leaves with it does not follow; one that leaves just after the change does, as a second boat
  pub not_followed : follows harbour early missed ≡ false
  pub two_boats : boats early (caught ∷ []) ≡ 2
  pub by_changing : Reached harbour (asked 0 10 2) 34 2
  pub by_walking : Reached harbour (asked 0 10 2) 40 2
  -- no change before the first boat, nor at the last pier
  pub no_change_first : Reached harbour (asked 1 25 2) 30 1
  -- begun by a walk, but not by one that comes a minute late
  pub in_time : begins harbour 0 23 across ≡ true
  pub too_late : begins harbour 0 24 across ≡ false
  pub begun_on_foot : Reached harbour (asked 0 23 2) 40 1
  -- ended by a walk, and with no boat at all
  pub ended_on_foot : Reached harbour (asked 0 10 4) 42 1
  pub all_on_foot : Reached harbour (asked 0 100 3) 105 0
  pub already_there : Reached harbour (asked 0 100 0) 100 0
  -- Walks lead from pier 0 to pier 3 and from there to pier 4, but no one walk from 0 to 4. With the boats gone nobody
  -- gets there.
  pub no_walk_between : (t u : ℕ) → walks_to harbour.walks 0 t 4 u ≡ false
  pub not_by_two_walks : (arrival taken : ℕ) → Reached harbour (asked 0 100 4) arrival taken → ⊥
  -- with a leg that comes earlier than it leaves no journey begins or goes on, though one would be there in time
  pub backward_in_plan : in_plan backward harbour.legs ≡ true
  pub backward_follows : follows harbour early backward ≡ true
  pub none_goes_on_backward : joined harbour early (backward ∷ []) ≡ false
  pub backward_begins : begins harbour 1 30 backward ≡ true
  pub none_begins_backward : (xs : List Leg) → Journey harbour 1 30 backward xs → ⊥
  -- nor with one that is not in the plan
  pub stranger_follows : follows harbour early stranger ≡ true
  pub none_goes_on_strange : joined harbour early (stranger ∷ []) ≡ false
  pub none_begins_strange : (s t : ℕ) (xs : List Leg) → Journey harbour s t stranger xs → ⊥

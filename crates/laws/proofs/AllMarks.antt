-- The computed marks are those of journeys, and none is missing: so the best of them are the answer.
use Rattle.std.proofs.Common.{◌≡◌, ℕ, zero, suc, ◌+◌, ◌<◌, ◌≤◌, Bool, true, cond, ◌&&◌, ◌||◌, eqb, ◌⊎◌, List, [], ◌∷◌, ◌++◌, length, get_or, sym, refl, ◌∙◌, subst, inl, inr, arith}
use Rattle.std.specs.List.{AllByRecursion}
use Rattle.std.proofs.ByRecursion.{All-append, All-weaker}
use Rattle.std.proofs.lemmas.Bool.Decides.{nat_tests}
use Rattle.std.proofs.lemmas.Bool.{and_parts, and_from, or_left, or_right, eqb-true, false≢true, cond_both, cases_eq}
use Rattle.plan.specs.declared.leg.Leg.{Leg}
use Rattle.plan.specs.declared.walk.Walk.{Walk}
use Rattle.plan.specs.Legs.{Plan, runs, no_walk}
use Rattle.journey.specs.declared.question.Question.{Question}
use Rattle.journey.specs.Journeys.{in_plan, boats, last, Ends, Reached}
use Rattle.journey.specs.Journeys.Ends.{at_once, on_foot}
use Rattle.journey.specs.Journeys.Reached.{without_boat, by_legs}
use Rattle.journey.specs.Aboard.{Usable}
use Rattle.journey.proofs.PlanLegs.{in_plan_none, in_plan_first, in_plan_later, in_plan_cases}
use Rattle.journey.proofs.Chains.{boats_some}
use Rattle.journey.proofs.Aboard.{aboard_in}
use Rattle.journey.proofs.LastLegs.{journey_aboard}
use Rattle.marks.specs.declared.mark.Mark.{Mark}
use Rattle.marks.specs.Marks.{covered}
use Rattle.rounds.specs.Answers.{MarkReached, Answer}
use Rattle.laws.specs.AnswerLaws.{AlwaysAnswered}
use Rattle.laws.specs.Computed.{rides, marks_on_foot, marks_at, marks_by, all_marks, answer_of}
use Rattle.laws.proofs.Best.{best_answers}
use Rattle.laws.proofs.Rides.{Ride, rides_out, journey_rides}

abbrev mark : ℕ → ℕ → Mark
mark u n = record { arrival = u; boats = n }

-- ---- the marks of who is at a pier at a time

on_foot_all : (E : Mark → Type 0) (ws : List Walk) (d s t n : ℕ) →
    ((j : ℕ) → j < length ws → (get_or ws j no_walk).from ≡ s → (get_or ws j no_walk).to ≡ d →
    E (mark (t + (get_or ws j no_walk).takes) n)) →
    AllByRecursion E (marks_on_foot ws d s t n)
on_foot_all E [] d s t n h = tt
on_foot_all E (w ∷ ws) d s t n h =
    let ih = on_foot_all E ws d s t n (λ j l. h (suc j) (omega arith)) in
    cond_both (eqb w.from s && eqb w.to d) _ _ (AllByRecursion E)
    (λ e. let x = and_parts _ _ e in (h 0 (omega arith) (eqb-true _ _ x.0) (eqb-true _ _ x.1), ih))
    (λ e. ih)

abbrev EndsWith : Plan → ℕ → ℕ → ℕ → ℕ → Mark → Type 0
EndsWith p d s t n m = Ends p d s t m.arrival × (m.boats ≡ n)

marks_at_all : (p : Plan) (d s t n : ℕ) → AllByRecursion (EndsWith p d s t n) (marks_at p d s t n)
marks_at_all p d s t n =
    let E = EndsWith p d s t n in
    let walked = on_foot_all E p.walks d s t n (λ j l e f. (on_foot j l e f, refl)) in
    cond_both (eqb s d) _ _ (AllByRecursion E)
    (λ e. ((subst (λ (c : ℕ). Ends p c s t t) (eqb-true s d e) at_once, refl), walked))
    (λ e. walked)

on_foot_covers : (ws : List Walk) (d s t n j : ℕ) → j < length ws →
    (get_or ws j no_walk).from ≡ s → (get_or ws j no_walk).to ≡ d →
    covered (mark (t + (get_or ws j no_walk).takes) n) (marks_on_foot ws d s t n) ≡ true
on_foot_covers [] d s t n j l f g = absurd (omega arith)
on_foot_covers (w ∷ ws) d s t n zero l f g = grind (arith, nat_tests)
on_foot_covers (w ∷ ws) d s t n (suc j) l f g =
    let ih = on_foot_covers ws d s t n j (omega arith) f g in
    grind (arith, nat_tests)

marks_at_covers : {p : Plan} {d s t u : ℕ} (n : ℕ) → Ends p d s t u → covered (mark u n) (marks_at p d s t n) ≡ true
marks_at_covers n at_once = grind (arith, nat_tests)
marks_at_covers {p} {d} {s} {t} n (on_foot j l e f) =
    let z = on_foot_covers p.walks d s t n j l e f in
    grind (arith, nat_tests)

-- ---- what lists put together cover

covered_append : (m : Mark) (xs ys : List Mark) → covered m (xs ++ ys) ≡ (covered m xs || covered m ys)
covered_append m [] ys = refl
covered_append m (x ∷ xs) ys = let ih = covered_append m xs ys in grind arith

covered_left : (m : Mark) (xs ys : List Mark) → covered m xs ≡ true → covered m (xs ++ ys) ≡ true
covered_left m xs ys e = covered_append m xs ys ∙ or_left (covered m xs) (covered m ys) e

covered_right : (m : Mark) (xs ys : List Mark) → covered m ys ≡ true → covered m (xs ++ ys) ≡ true
covered_right m xs ys e = covered_append m xs ys ∙ or_right (covered m xs) (covered m ys) e

-- marks that are put in front, or not, leave the others where they are
covered_kept : (m : Mark) (b : Bool) (xs ys : List Mark) → covered m ys ≡ true → covered m (cond b (xs ++ ys) ys) ≡ true
covered_kept m b xs ys e = cond_both b (xs ++ ys) ys (λ zs. covered m zs ≡ true) (λ _. covered_right m xs ys e) (λ _. e)

covered_put : (m : Mark) (b : Bool) (xs ys : List Mark) → b ≡ true → covered m xs ≡ true →
    covered m (cond b (xs ++ ys) ys) ≡ true
covered_put m b xs ys h e =
    subst (λ (c : Bool). covered m (cond c (xs ++ ys) ys) ≡ true) (sym h) (covered_left m xs ys e)

-- ---- the marks of a question

module _ (p : Plan) (q : Question) where
  -- a journey whose last leg ends at the pier has the mark
  ride_mark : (k : ℕ) (b : Leg) (m : Mark) → Ride p q.from q.time k b →
      EndsWith p q.to b.to b.comes (suc k) m → MarkReached p q m
  ride_mark k b m x e =
      let ends = subst (λ (l : Leg). Ends p q.to l.to l.comes m.arrival) (sym x.is_last) e.0 in
      let found = by_legs x.first x.rest x.made ends in
      subst (Reached p q m.arrival) (x.taken ∙ sym e.1) found

  foot_mark : (m : Mark) → EndsWith p q.to q.from q.time 0 m → MarkReached p q m
  foot_mark m e = subst (Reached p q m.arrival) (sym e.1) (without_boat e.0)

  abbrev ReachedWith : ℕ → Mark → Type 0
  ReachedWith n m = MarkReached p q m × (m.boats ≡ n)

  abbrev ReachedWithin : ℕ → Mark → Type 0
  ReachedWithin n m = MarkReached p q m × (m.boats ≤ n)

  marks_by_all : (k : ℕ) (ls : List Leg) → ((b : Leg) → in_plan b ls ≡ true → in_plan b p.legs ≡ true) →
      AllByRecursion (ReachedWith (suc k)) (marks_by p q k ls)
  marks_by_all k [] h = tt
  marks_by_all k (b ∷ bs) h =
      let M = ReachedWith (suc k) in
      let E = EndsWith p q.to b.to b.comes (suc k) in
      let here = marks_at p q.to b.to b.comes (suc k) in
      let ih : AllByRecursion M (marks_by p q k bs) = marks_by_all k bs (λ c i. h c (in_plan_later c b bs i)) in
      cond_both (runs b && rides p q.from q.time k b) (here ++ marks_by p q k bs) (marks_by p q k bs) (AllByRecursion M)
      (λ e.
      let y = and_parts (runs b) (rides p q.from q.time k b) e in
      let usable : Usable p b = record { known = h b (in_plan_first b bs); going = y.0 } in
      let x = rides_out p q.from q.time k b usable y.1 in
      let reached = All-weaker E M (λ m z. (ride_mark k b m x z, z.1)) here
      (marks_at_all p q.to b.to b.comes (suc k)) in
      All-append M here (marks_by p q k bs) reached ih)
      (λ e. ih)

  all_marks_reached : (most : ℕ) → AllByRecursion (ReachedWithin most) (all_marks p q most)
  all_marks_reached zero =
      All-weaker (EndsWith p q.to q.from q.time 0) (ReachedWithin 0) (λ m z. (foot_mark m z, omega arith))
      (all_marks p q 0) (marks_at_all p q.to q.from q.time 0)
  all_marks_reached (suc k) =
      let M = ReachedWithin (suc k) in
      let by = All-weaker (ReachedWith (suc k)) M (λ m z. (z.0, omega arith)) (marks_by p q k p.legs)
      (marks_by_all k p.legs (λ b i. i)) in
      let fewer = All-weaker (ReachedWithin k) M (λ m z. (z.0, omega arith)) (all_marks p q k) (all_marks_reached k) in
      All-append M (marks_by p q k p.legs) (all_marks p q k) by fewer

  -- The mark of a leg that is ridden is there: the legs are gone through one after the other, and where it is the leg at
  -- hand its marks are put in front of the others. (It is the leg itself that is met, not only one of its name.)
  marks_by_covers : (k u : ℕ) (b : Leg) (ls : List Leg) → in_plan b ls ≡ true → runs b ≡ true →
      rides p q.from q.time k b ≡ true → Ends p q.to b.to b.comes u →
      covered (mark u (suc k)) (marks_by p q k ls) ≡ true
  marks_by_covers k u b [] i r e z = absurd (false≢true (sym (in_plan_none b) ∙ i))
  marks_by_covers k u b (c ∷ cs) i r e z = at (in_plan_cases b c cs i) (λ h. marks_by_covers k u b cs h r e z)
    where
      ridden : Leg → Bool
      ridden a = runs a && rides p q.from q.time k a

      here : Leg → List Mark
      here a = marks_at p q.to a.to a.comes (suc k)

      rest : List Mark
      rest = marks_by p q k cs

      at : (b ≡ c) ⊎ (in_plan b cs ≡ true) → (in_plan b cs ≡ true → covered (mark u (suc k)) rest ≡ true) →
          covered (mark u (suc k)) (cond (ridden c) (here c ++ rest) rest) ≡ true
      at (inl h) ih =
          let yes = and_from (runs b) (rides p q.from q.time k b) r e in
          subst (λ (a : Leg). covered (mark u (suc k)) (cond (ridden a) (here a ++ rest) rest) ≡ true) h
          (covered_put (mark u (suc k)) (ridden b) (here b) rest yes (marks_at_covers (suc k) z))
      at (inr h) ih = covered_kept (mark u (suc k)) (ridden c) (here c) rest (ih h)

  -- with more boats allowed no mark is lost
  foot_covers : (most u : ℕ) → Ends p q.to q.from q.time u → covered (mark u 0) (all_marks p q most) ≡ true
  foot_covers zero u z = marks_at_covers 0 z
  foot_covers (suc k) u z = covered_right (mark u 0) (marks_by p q k p.legs) (all_marks p q k) (foot_covers k u z)

  boat_covers : (most u k : ℕ) → suc k ≤ most → covered (mark u (suc k)) (marks_by p q k p.legs) ≡ true →
      covered (mark u (suc k)) (all_marks p q most) ≡ true
  boat_covers zero u k l z = absurd (omega arith)
  boat_covers (suc n) u k l z = at (cases_eq k n) (λ h. boat_covers n u k h z)
    where
      by : ℕ → List Mark
      by j = marks_by p q j p.legs

      at : (k ≡ n) ⊎ (k ≡ n → ⊥) → (suc k ≤ n → covered (mark u (suc k)) (all_marks p q n) ≡ true) →
          covered (mark u (suc k)) (by n ++ all_marks p q n) ≡ true
      at (inl h) ih =
          covered_left (mark u (suc k)) (by n) (all_marks p q n)
          (subst (λ (j : ℕ). covered (mark u (suc k)) (by j) ≡ true) h z)
      at (inr h) ih = covered_right (mark u (suc k)) (by n) (all_marks p q n) (ih (omega arith))

  -- Every mark that is reached is covered. One without a boat is among the marks on foot. One by boat has a journey,
  -- whose last leg is in the plan, runs, and is ridden with exactly the boats of the journey.
  all_covers : (most u n : ℕ) → Reached p q u n → n ≤ most → covered (mark u n) (all_marks p q most) ≡ true
  all_covers most u n (without_boat e) l = foot_covers most u e
  all_covers most u n (by_legs a bs j e) l = by_boat (boats a bs) refl l (boats_some a bs)
    where
      by_boat : (m : ℕ) → m ≡ boats a bs → m ≤ most → 1 ≤ m → covered (mark u m) (all_marks p q most) ≡ true
      by_boat zero h few some = absurd (omega arith)
      by_boat (suc k) h few some =
          let last_in = aboard_in (journey_aboard j) in
          let ridden = journey_rides p q.from q.time k a bs j h in
          boat_covers most u k few (marks_by_covers k u (last a bs) p.legs last_in.known last_in.going ridden e)

pub computed_answers : (p : Plan) (most : ℕ) (q : Question) → Answer p most q (answer_of p most q)
computed_answers p most q =
    best_answers (MarkReached p q) most (all_marks p q most) (all_marks_reached p q most)
    (λ m r l. all_covers p q most m.arrival m.boats r l)

pub always_answered : AlwaysAnswered
always_answered p most q = (answer_of p most q, computed_answers p most q)

-- A question: the legs that it seeds are those that a journey can begin with, and what is reached from them is what
-- journeys reach.
use Rattle.std.proofs.Common.{◌≡◌, ℕ, ◌+◌, ◌<◌, ◌≤◌, Bool, true, cond, List, length, get_or, replicate, sym, refl, ap, ◌∙◌, subst, ⊎_elim, le_refl, add-zero, arith}
use lib.ListN.{length-replicate}
use Rattle.std.proofs.lemmas.List.{get_or-replicate}
use Rattle.std.proofs.lemmas.Bool.{cases_Bool, cond-true, cond-false, leb-true, le-leb}
use Rattle.std.proofs.lemmas.Bool.Decides.{same_from_decides}
use Rattle.plan.specs.declared.leg.Leg.{Leg}
use Rattle.plan.specs.Legs.{Plan, leg, walk, piers}
use Rattle.journey.specs.declared.question.Question.{Question}
use Rattle.journey.specs.Steps.{begins}
use Rattle.journey.specs.Journeys.{Ends, Reached}
use Rattle.journey.specs.Journeys.Ends.{at_once, on_foot}
use Rattle.journey.specs.Journeys.Reached.{without_boat}
use Rattle.journey.specs.Aboard.{Aboard, Begun, Usable}
use Rattle.journey.specs.Aboard.AboardBy.{start, stay, board}
use Rattle.journey.proofs.Aboard.{aboard_map, aboard_holds}
use Rattle.journey.proofs.Following.{begins_cases, begins_here, begins_walk, begins_le}
use Rattle.journey.proofs.LastLegs.{reached_aboard, aboard_reached}
use Rattle.journey.proofs.PlanLegs.{usable_place}
use Rattle.marks.specs.declared.mark.Mark.{Mark}
use Rattle.marks.specs.Marks.{no_worse}
use Rattle.marks.specs.Answers.{AnswerOf}
use Rattle.marks.proofs.Marks.{no_worse_by}
use Rattle.rounds.specs.Layout.{Laid}
use Rattle.rounds.specs.Levels.{Seeded, AboardFrom, Levels, Sown}
use Rattle.rounds.specs.Times.{never, Earliest, Put, Lowered, Outset}
use Rattle.rounds.specs.Boarding.{ready_for}
use Rattle.rounds.specs.Answers.{Answer, There, without, with_leg, Seeds, Asked}
use Rattle.rounds.proofs.Cells.{Lowers, Gone, gone_all, at_once_there, ends_gets, gets_ends}
use Rattle.rounds.proofs.Levels.{Gets}
use Rattle.rounds.proofs.Answers.{answer_tight}
use Rattle.rounds.proofs.Nesting.{mark, ends_in_time}

-- the pier where one sets out, and then each walk from there
pub outset_all : {p : Plan} {s t : ℕ} {blank row : List ℕ} {at : ℕ} (row₁ : List ℕ) (n : ℕ) →
    piers p ≡ n → blank ≡ replicate n never → Lowered blank s t row → at ≡ 0 →
    ((d : ℕ) → d < length row → Gone p.walks s t d (get_or row d 0) (get_or row₁ d 0) at) → Outset p s t row₁
outset_all {p} {s} {t} {blank} {row} row₁ n wide is low done walks d h =
    record {
      given = λ early. gets_ends (⊎_elim (λ same. absurd (omega (arith, same, at_never))) (λ g. g) all.given);
      least = λ y e. all.offers y (ends_gets e);
    }
  where
    long : length blank ≡ n
    long = ap length is ∙ length-replicate {A = ℕ} n never

    at_never : get_or blank d 0 ≡ never
    at_never = ap (λ r. get_or r d 0) is ∙ get_or-replicate n d never 0 (omega arith)

    put : Put s (t + at_once_there s) d (get_or blank d 0) (get_or row d 0)
    put = subst (λ z. Put s z d (get_or blank d 0) (get_or row d 0)) (sym (add-zero t)) (low.cells d (omega (arith, long)))

    all : Lowers (Gets p at_once_there d s t) (get_or blank d 0) (get_or row₁ d 0)
    all = gone_all at_once_there put
        (subst (Gone p.walks s t d (get_or row d 0) (get_or row₁ d 0)) done (walks d (omega (arith, long, low.long))))

-- a journey can begin with a leg exactly if one is at its pier in time
ends_begins : (p : Plan) (b : Leg) {s t d x : ℕ} → Ends p d s t x → d ≡ b.from → x ≤ b.leaves → begins p s t b ≡ true
ends_begins p b {s} {t} at_once e l = begins_here p s t b (sym e) l
ends_begins p b {s} {t} (on_foot j h f g) e l =
    begins_walk p s t b (record { place = j; within = h; from = f; to = g ∙ e; in_time = l })

begins_ends : (p : Plan) (b : Leg) (s t : ℕ) → begins p s t b ≡ true → (x : ℕ) × Ends p b.from s t x × (x ≤ b.leaves)
begins_ends p b s t e =
    ⊎_elim
    (λ h. (t, subst (λ d. Ends p d s t t) (sym h.0) (subst (λ z. Ends p s z t t) refl at_once), h.1))
    (λ w. (t + (walk p w.place).takes, on_foot w.place w.within w.from w.to, w.in_time))
    (begins_cases p s t b e)

pub outset_begins : {p : Plan} (s t : ℕ) (row : List ℕ) (b : Leg) → Outset p s t row →
    b.from < piers p → b.leaves < never → ready_for row b ≡ begins p s t b
outset_begins {p} s t row b out h early =
    same_from_decides _ _ (leb-true _ _, le-leb _ _) (
      λ e.
          let (x, end, l) = begins_ends p b s t e in
          omega (arith, (out b.from h).least x end),
      λ l. ends_begins p b ((out b.from h).given (omega arith)) refl l,
    )

-- the seeds of a question
module _ (p : Plan) (q : Question) (seed : List ℕ) (sow : Seeds p q seed) where
  seeded_begins : (i : ℕ) → i < length p.legs → 1 ≤ get_or seed i 0 → begins p q.from q.time (leg p i) ≡ true
  seeded_begins i h l =
      ⊎_elim
      (λ e. e)
      (λ e. absurd (omega (arith, sow i h, cond-false {A = ℕ} (begins p q.from q.time (leg p i)) 1 0 e)))
      (cases_Bool (begins p q.from q.time (leg p i)))

  pub seeds_sown : Sown p q.time seed
  seeds_sown = record {
    late = λ i h l. begins_le p q.from q.time (leg p i) (seeded_begins i h l);
    alike = λ i j h l e.
        sow i h ∙ ap (λ b. cond {A = ℕ} (begins p q.from q.time b) 1 0) e ∙ sym (sow j l);
  }

  -- no seed is greater than one boat
  pub seeds_one : (i : ℕ) → i < length p.legs → get_or seed i 0 ≤ 1
  seeds_one i h =
      let b = begins p q.from q.time (leg p i) in
      ⊎_elim
      (λ e. omega (arith, sow i h, cond-true {A = ℕ} b 1 0 e))
      (λ e. omega (arith, sow i h, cond-false {A = ℕ} b 1 0 e))
      (cases_Bool b)

  -- Who is aboard from a seed made a journey, and who made one is aboard from a seed.
  pub seeds_aboard : {k : ℕ} {b : Leg} → AboardFrom p seed k b → Aboard p q.from q.time k b
  seeds_aboard x = aboard_map
      (λ k b y. record {
        enough = omega (arith, y.some, y.enough);
        begun =
            subst (λ (z : Leg). begins p q.from q.time z ≡ true) y.is
            (seeded_begins y.place y.within y.some);
      })
      (λ a b e. e) (λ a b e. e) (λ b u. u) x

  pub aboard_seeds : {k : ℕ} {b : Leg} → Aboard p q.from q.time k b → AboardFrom p seed k b
  aboard_seeds x = aboard_holds (AboardFrom p seed) (λ k b y u. start (seed_of k b y u) u)
      (λ k a b u y e v. stay y e v) (λ j k a b u y l e v. board y l e v) x
    where
      seed_of : (k : ℕ) (b : Leg) → Begun p q.from q.time k b → Usable p b → Seeded p seed k b
      seed_of k b y u =
          let w = usable_place u in
          let begun = subst (λ (z : Leg). begins p q.from q.time z ≡ true) (sym w.is) y.begun in
          let one : get_or seed w.place 0 ≡ 1 = sow w.place w.within ∙ cond-true {A = ℕ} _ 1 0 begun in
          record {
            place = w.place;
            within = w.within;
            is = w.is;
            some = omega arith;
            enough = omega (arith, y.enough);
          }

  pub seeds_levels : {k : ℕ} {level : List ℕ} → Levels (AboardFrom p seed) p k level →
      Levels (Aboard p q.from q.time) p k level
  seeds_levels ls = record {
    sound = λ i h l. let z = ls.sound i h l in (seeds_aboard z.0, z.1);
    least = λ i j h l x. ls.least i j h l (aboard_seeds x);
  }

  -- The answer from the seeds is the answer to the question. A mark from a leg has the journey that ends with the leg,
  -- with no more boats. Without a boat only the earliest time counts, and that is before `never`.
  module _ {joins : List Bool} {first link : List ℕ} (laid : Laid p joins first link) (asked : Asked p q) {foot : ℕ}
      (earliest : Earliest (Ends p q.to q.from q.time) foot) where
    told : (m : Mark) → There p seed q.to foot m →
        (n : Mark) × Reached p q n.arrival n.boats × (no_worse n m ≡ true)
    told m (without h e) =
        (mark foot 0, without_boat (earliest.given h), no_worse_by (mark foot 0) m (omega arith) (omega arith))
    told m (with_leg a y e) =
        let z = aboard_reached {q = q} (seeds_aboard y) e in
        (mark z.arrival z.taken, z.found, no_worse_by (mark z.arrival z.taken) m z.no_later z.no_more)

    found : (m : Mark) → Reached p q m.arrival m.boats →
        (n : Mark) × There p seed q.to foot n × (no_worse n m ≡ true)
    found m r =
        ⊎_elim
        (λ w.
        let soon = earliest.least m.arrival w.1 in
        let early = ends_in_time laid asked.time w.1 in
        (mark foot m.boats, without (omega arith) refl, no_worse_by (mark foot m.boats) m soon (le_refl _)))
        (λ w. (m, with_leg w.0 (aboard_seeds w.1) w.2, no_worse_by m m (le_refl _) (le_refl _)))
        (reached_aboard r)

    pub seeds_answer : {most : ℕ} {ms : List Mark} → AnswerOf (There p seed q.to foot) most ms → Answer p most q ms
    seeds_answer a = answer_tight found told a

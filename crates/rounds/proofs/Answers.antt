-- From one relation of marks to another, and from what is reached with at most so many boats to the marks of journeys.
use Rattle.std.proofs.Common.{◌≡◌, ℕ, ◌≤◌, true, List, [], ◌∷◌, refl, ap, subst, ⊎_elim, arith}
use Rattle.std.proofs.lemmas.Bool.{or_cases}
use Rattle.marks.specs.declared.mark.Mark.{Mark}
use Rattle.marks.specs.Marks.{no_worse, covered, Among, among_first, among_later, Falling}
use Rattle.marks.specs.Answers.{AnswerOf}
use Rattle.marks.proofs.Marks.{mark_ext, covered_up, no_worse_times, no_worse_boats, no_worse_trans}
use Rattle.marks.proofs.Marks.{falling_head, falling_tail}

-- what covers a mark is one of the list
pub covered_by : (m : Mark) (ms : List Mark) → covered m ms ≡ true → (n : Mark) × Among n ms × (no_worse n m ≡ true)
covered_by m [] e = absurd (let z : ◌≡◌ {A = ℕ} 0 1 = cc in omega arith)
covered_by m (x ∷ ms) e =
    ⊎_elim
    (λ h. (x, among_first, h))
    (λ h. let (n, i, l) = covered_by m ms h in (n, among_later i, l))
    (or_cases (no_worse x m) (covered m ms) e)

-- of a falling list no mark is no worse than another
pub falling_apart : (ms : List Mark) → Falling ms → (m n : Mark) → Among m ms → Among n ms → no_worse m n ≡ true → m ≡ n
falling_apart [] f m n i j e = elim i [ ]
falling_apart (x ∷ ms) f m n among_first among_first e = refl
falling_apart (x ∷ ms) f m n among_first (among_later j) e =
    let h = falling_head f n j in absurd (omega (arith, no_worse_times m n e))
falling_apart (x ∷ ms) f m n (among_later i) among_first e =
    let h = falling_head f m i in absurd (omega (arith, no_worse_boats m n e))
falling_apart (x ∷ ms) f m n (among_later i) (among_later j) e = falling_apart ms (falling_tail f) m n i j e

-- Two relations have one answer, if every mark of either has one of the other that is no worse. A mark m of the answer
-- for A has such a mark of R, and that one has such a mark of A in turn. Some mark of the answer is no worse than this
-- last, hence no worse than m, and that can only be m itself. So all of them are one mark, and m is a mark of R.
pub answer_tight : {A R : Mark → Type 0} {most : ℕ} {ms : List Mark} →
    ((m : Mark) → R m → (n : Mark) × A n × (no_worse n m ≡ true)) →
    ((m : Mark) → A m → (n : Mark) × R n × (no_worse n m ≡ true)) → AnswerOf A most ms → AnswerOf R most ms
answer_tight {A} {R} {most} {ms} loose tight a = record {
  falling = a.falling;
  reached = exact;
  few = a.few;
  all = λ m r l. within m r l;
}
  where
    within : (m : Mark) → R m → m.boats ≤ most → covered m ms ≡ true
    within m r l =
        let (n, x, e) = loose m r in
        covered_up n m ms e (a.all n x (omega (arith, no_worse_boats n m e)))

    exact : (m : Mark) → Among m ms → R m
    exact m i =
        let (n, r, e) = tight m (a.reached m i) in
        let (o, j, f) = covered_by n ms (within n r (omega (arith, no_worse_boats n m e, a.few m i))) in
        let same = falling_apart ms a.falling o m j i (no_worse_trans o n m f e) in
        let time = ap (λ (x : Mark). x.arrival) same in
        let boats = ap (λ (x : Mark). x.boats) same in
        subst R
        (mark_ext n m (omega (arith, no_worse_times n m e, no_worse_times o n f))
        (omega (arith, no_worse_boats n m e, no_worse_boats o n f)))
        r

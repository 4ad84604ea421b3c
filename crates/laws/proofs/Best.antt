-- The best of some marks: an answer from any list of reached marks that covers all that are reached.
use Rattle.std.proofs.Common.{◌≡◌, ℕ, ◌≤◌, true, ◌||◌, ltb, List, [], ◌∷◌, arith}
use Rattle.std.specs.List.{AllByRecursion}
use Rattle.std.proofs.lemmas.Bool.Decides.{nat_tests}
use Rattle.std.proofs.lemmas.Bool.{cond_both}
use Rattle.marks.specs.declared.mark.Mark.{Mark}
use Rattle.marks.specs.Marks.{no_worse, covered, Among, among_first, among_later, Falling}
use Rattle.marks.specs.Marks.Falling.{falling_none, falling_one, falling_more}
use Rattle.marks.specs.Answers.{AnswerOf}
use Rattle.marks.proofs.Marks.{Before, falling_tail, falling_head, falling_cons}
use Rattle.laws.specs.Computed.{add, best}

-- what holds of all marks of a list holds of each among them, and back
all_among : (P : Mark → Type 0) {m : Mark} {ms : List Mark} → Among m ms → AllByRecursion P ms → P m
all_among P among_first a = a.0
all_among P (among_later i) a = all_among P i a.1

among_all : (P : Mark → Type 0) (ms : List Mark) → ((m : Mark) → Among m ms → P m) → AllByRecursion P ms
among_all P [] h = tt
among_all P (m ∷ ms) h = (h m among_first, among_all P ms (λ n i. h n (among_later i)))

-- no mark comes in but the one that is added
add_all : (P : Mark → Type 0) (m : Mark) (ms : List Mark) → P m → AllByRecursion P ms → AllByRecursion P (add m ms)
add_all P m [] h a = (h, tt)
add_all P m (n ∷ ns) h a =
    let ih = add_all P m ns h a.1 in
    cond_both (no_worse n m) _ _ (AllByRecursion P) (λ e. a) λ e.
    cond_both (no_worse m n) _ _ (AllByRecursion P) (λ e. ih) λ e.
    cond_both (ltb m.boats n.boats) _ _ (AllByRecursion P) (λ e. (h, a)) (λ e. (a.0, ih))

-- A mark that is neither needless nor makes the next one needless comes before it with fewer boats, or after it with
-- more and earlier. So the list falls still: behind n stand only marks that stood there and the added one, and each of
-- them has more boats than n and is earlier.
add_falling : (m : Mark) (ms : List Mark) → Falling ms → Falling (add m ms)
add_falling m [] f = falling_one
add_falling m (n ∷ ns) f =
    let ih = add_falling m ns (falling_tail f) in
    cond_both (no_worse n m) _ _ Falling (λ e. f) λ e.
    cond_both (no_worse m n) _ _ Falling (λ e₁. ih) λ e₁.
    cond_both (ltb m.boats n.boats) _ _ Falling
    (λ l. falling_more (grind (arith, nat_tests)) (grind (arith, nat_tests)) f)
    (λ l.
    let behind = among_all (Before n) ns (falling_head f) in
    let all = add_all (Before n) m ns (grind (arith, nat_tests), grind (arith, nat_tests)) behind in
    falling_cons n (add m ns) (λ x i. all_among (Before n) i all) ih)

-- what was covered is so still: a mark is left out only for one that is no worse
add_covers : (x m : Mark) (ms : List Mark) → (no_worse m x || covered x ms) ≡ true → covered x (add m ms) ≡ true
add_covers x m [] e = e
add_covers x m (n ∷ ns) e = let ih = add_covers x m ns in grind (arith, nat_tests)

best_falling : (ms : List Mark) → Falling (best ms)
best_falling [] = falling_none
best_falling (m ∷ ms) = add_falling m (best ms) (best_falling ms)

best_all : (P : Mark → Type 0) (ms : List Mark) → AllByRecursion P ms → AllByRecursion P (best ms)
best_all P [] a = a
best_all P (m ∷ ms) a = add_all P m (best ms) a.0 (best_all P ms a.1)

best_covers : (x : Mark) (ms : List Mark) → covered x ms ≡ true → covered x (best ms) ≡ true
best_covers x [] e = e
best_covers x (m ∷ ms) e = let ih = best_covers x ms in add_covers x m (best ms) (grind arith)

-- whatever it is that says which marks are reached
pub best_answers : (R : Mark → Type 0) (most : ℕ) (ms : List Mark) → AllByRecursion (λ m. R m × (m.boats ≤ most)) ms →
    ((m : Mark) → R m → m.boats ≤ most → covered m ms ≡ true) → AnswerOf R most (best ms)
best_answers R most ms s c =
    let P : Mark → Type 0 = λ m. R m × (m.boats ≤ most) in
    let a = best_all P ms s in
    record {
      falling = best_falling ms;
      reached = λ m i. (all_among P i a).0;
      few = λ m i. (all_among P i a).1;
      all = λ m r l. best_covers m ms (c m r l);
    }

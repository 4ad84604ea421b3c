-- What a front holds, with one mark more, and round by round.
use Rattle.std.proofs.Common.{◌≡◌, ℕ, suc, ◌+◌, ◌-◌, ◌<◌, ◌≤◌, true, false, ◌&&◌, ltb, List, [], ◌∷◌, ◌++◌, length, get_or, take, set, sym, ap, ◌∙◌, subst, ⊎_elim, arith}
use Rattle.std.proofs.Math.Bool.{and-true}
use Rattle.std.proofs.lemmas.List.{length-take-le, take_more_set}
use Rattle.std.proofs.lemmas.Bool.{and_from, and_parts, cases_Bool, cond-true, cond_both, lt-ltb, ltb-true, true≢false}
use Rattle.std.proofs.lemmas.Bool.Decides.{nat_tests}
use Rattle.marks.specs.declared.mark.Mark.{Mark}
use Rattle.marks.specs.declared.front.Front.{Front}
use Rattle.marks.specs.Marks.{no_worse, covered, Among, Falling, falls, falls_on, in_order}
use Rattle.marks.specs.Answers.{AnswerOf}
use Rattle.marks.specs.Fronts.{marks_of, accepts, with_mark}
use Rattle.marks.proofs.Marks.{Before, no_worse_by, covered_up, uncovered, falling_push, falling_last}
use Rattle.marks.proofs.Marks.{in_order_falling, falling_in_order}
use Rattle.marks.proofs.Answers.{answer_same, answer_more, answer_short}

-- of marks in order with one more behind them only the last step is left to test
falls_on_push : (m n d : Mark) (ms : List Mark) → falls_on n ms ≡ true →
    falls_on n (ms ++ m ∷ []) ≡ falls (get_or (n ∷ ms) (length ms) d) m
falls_on_push m n d [] e = and-true (falls n m)
falls_on_push m n d (k ∷ ks) e = let ih = falls_on_push m k d ks in grind arith

pub in_order_push : (m d : Mark) (ms : List Mark) → in_order ms ≡ true → 0 < length ms →
    in_order (ms ++ m ∷ []) ≡ falls (get_or ms (length ms - 1) d) m
in_order_push m d [] e h = absurd (omega arith)
in_order_push m d (n ∷ ns) e h =
    let z : length ns ≡ suc (length ns) - 1 = omega arith in
    falls_on_push m n d ns e ∙ ap (λ k. falls (get_or (n ∷ ns) k d) m) z

held : (row : List Mark) (count : ℕ) → length row ≡ 9 → count ≤ 9 → length (take count row) ≡ count
held row count nine within = length-take-le count row (omega arith)

module _ (row : List Mark) (count : ℕ) (m : Mark) (nine : length row ≡ 9) (within : count ≤ 9) where
  -- the last mark tells whether another can come next
  pub accepts_last : (ms : List Mark) (last : Mark) → ms ≡ take count row → in_order (take count row) ≡ true →
      0 < length ms → last ≡ get_or ms (length ms - 1) last →
      accepts (take count row) m ≡ (ltb count 9 && falls last m)
  accepts_last ms last all ordered some is = λ i. ltb (held row count nine within i) 9 && behind i
    where
      behind : in_order (take count row ++ m ∷ []) ≡ falls last m
      behind =
          ap (λ (l : List Mark). in_order (l ++ m ∷ [])) (sym all)
          ∙ in_order_push m last ms (ap in_order all ∙ ordered) some
          ∙ ap (λ (x : Mark). falls x m) (sym is)

  module _ (next : accepts (take count row) m ≡ true) where
    pub room : count < 9
    room =
        let fewer = ltb-true (length (take count row)) 9 (and_parts (ltb (length (take count row)) 9) _ next).0 in
        omega (arith, held row count nine within)

    pub grown : take (count + 1) (set row count m) ≡ take count row ++ m ∷ []
    grown = take_more_set row count m (omega (arith, room))

    pub grown_ordered : in_order (take (count + 1) (set row count m)) ≡ true
    grown_ordered = ap in_order grown ∙ (and_parts (ltb (length (take count row)) 9) _ next).1

    pub grown_with : take (count + 1) (set row count m) ≡ with_mark (take count row) m
    grown_with = grown ∙ sym (cond-true (accepts (take count row) m) (take count row ++ m ∷ []) (take count row) next)

-- what every front has
pub front_falling : (f : Front) → Falling (marks_of f)
front_falling f = in_order_falling (marks_of f) f.ordered

pub front_length : (f : Front) → length (marks_of f) ≡ f.count
front_length f = held f.row f.count f.nine f.within

-- what a falling list of fewer than nine becomes with a mark that falls on
pub with_falling : (ms : List Mark) (m : Mark) → length ms < 9 → Falling (ms ++ m ∷ []) → with_mark ms m ≡ ms ++ m ∷ []
with_falling ms m h f =
    cond-true (accepts ms m) (ms ++ m ∷ []) ms
    (and_from (ltb (length ms) 9) (in_order (ms ++ m ∷ [])) (lt-ltb (length ms) 9 h) (falling_in_order (ms ++ m ∷ []) f))

later : (n m : Mark) → no_worse n m ≡ false → n.boats ≤ m.boats → m.arrival < n.arrival
later n m e h = grind (arith, nat_tests)

-- A round's step. Of the marks with one boat more than the answer has, take one that is reached and that none arrives
-- before. If it can come next, it is earlier than every mark so far: the answer has one mark more. If not, there is
-- room all the same, so some mark of the answer is no later: that one covers it, and with it each mark of as many boats.
module _
    {R : Mark → Type 0} {k : ℕ} {ms : List Mark} (m : Mark)
    (bound : k < 8) (a : AnswerOf R k ms) (r : R m) (boats : m.boats ≡ suc k)
    (first : (n : Mark) → R n → n.boats ≡ suc k → m.arrival ≤ n.arrival)
  where
    earlier : covered m ms ≡ false → (n : Mark) → Among n ms → Before n m
    earlier e n i = let l = a.few n i in let z = uncovered m ms e n i in (omega arith, later n m z (omega arith))

    taken : covered m ms ≡ false → accepts ms m ≡ true
    taken e =
        let short = answer_short a in
        and_from (ltb (length ms) 9) (in_order (ms ++ m ∷ [])) (lt-ltb (length ms) 9 (omega arith))
        (falling_in_order (ms ++ m ∷ []) (falling_push m ms a.falling (earlier e)))

    covers : accepts ms m ≡ false → covered m ms ≡ true
    covers e = ⊎_elim (λ c. c) (λ c. absurd (true≢false (sym (taken c) ∙ e))) (cases_Bool (covered m ms))

    next_earlier : accepts ms m ≡ true → (n : Mark) → Among n ms → m.arrival < n.arrival
    next_earlier e n i = (falling_last m ms (in_order_falling _ (and_parts (ltb (length ms) 9) _ e).1) n i).1

    next_answer : AnswerOf R (suc k) (with_mark ms m)
    next_answer =
        cond_both (accepts ms m) (ms ++ m ∷ []) ms (AnswerOf R (suc k))
        (λ e. answer_more m a r boats (next_earlier e) first)
        (λ e. answer_same a (λ n z b. let l = first n z b in covered_up m n ms (no_worse_by m n l (omega arith)) (covers e)))

-- the same of what a loop makes of a front, with its own word for one boat more
pub answer_with : {R : Mark → Type 0} {k : ℕ} {ms : List Mark} (next : ℕ) (m : Mark) (out : List Mark) →
    next ≡ suc k → k < 8 → AnswerOf R k ms → R m → m.boats ≡ next →
    ((n : Mark) → R n → n.boats ≡ next → m.arrival ≤ n.arrival) → out ≡ with_mark ms m → AnswerOf R next out
answer_with {R} {k} next m out is bound a r boats first e =
    let all = next_answer m bound a r (boats ∙ is) (λ n z b. first n z (b ∙ sym is)) in
    subst (λ (j : ℕ). AnswerOf R j out) (sym is) (subst (AnswerOf R (suc k)) (sym e) all)

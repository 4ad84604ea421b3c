-- Marks written to a row, number by number.
use Rattle.std.proofs.Common.{◌≡◌, ℕ, ◌+◌, ◌*◌, ◌<◌, ◌≤◌, false, ltb, List, [], ◌∷◌, ◌++◌, length, get_or, take, set, Ok, Result, sym, refl, ap, ◌∙◌, arith}
use Rattle.std.proofs.lemmas.List.{take_more, take_all, length-take-le, length_push}
use Rattle.std.proofs.lemmas.Bool.{cond-false}
use Rattle.std.proofs.lemmas.Bool.Decides.{nat_tests}
use Rattle.plan.specs.declared.refusal.Refusal.{Refusal}
use Rattle.marks.specs.declared.mark.Mark.{Mark}
use Rattle.marks.specs.Row.{marks_words, front_words, over, row_room, row_after, row_reply}

-- the next number goes behind those that are written
pub over_more : (ws xs : List ℕ) (x : ℕ) → length ws < length xs → set (over ws xs) (length ws) x ≡ over (ws ++ x ∷ []) xs
over_more [] [] x h = absurd (omega arith)
over_more [] (y ∷ ys) x h = refl
over_more (w ∷ ws) [] x h = absurd (omega arith)
over_more (w ∷ ws) (y ∷ ys) x h = ap (λ (l : List ℕ). w ∷ l) (over_more ws ys x (omega arith))

words_length : (ms : List Mark) → length (marks_words ms) ≡ 2 * length ms
words_length [] = refl
words_length (m ∷ ms) = let ih = words_length ms in omega arith

words_push : (ms : List Mark) (m : Mark) → marks_words (ms ++ m ∷ []) ≡ (marks_words ms ++ m.arrival ∷ []) ++ m.boats ∷ []
words_push [] m = refl
words_push (n ∷ ns) m = ap (λ (l : List ℕ). n.arrival ∷ n.boats ∷ l) (words_push ns m)

-- the count, and the first so many marks: as the loop begins, after one more, and after all
pub row_none : (n : ℕ) (xs : List ℕ) → 0 < length xs → set xs 0 n ≡ over (n ∷ []) (set xs 0 n)
row_none n [] h = absurd (omega arith)
row_none n (x ∷ xs) h = refl

pub over_first : (n : ℕ) (ws xs : List ℕ) → 0 < length xs → over (n ∷ ws) (set xs 0 n) ≡ over (n ∷ ws) xs
over_first n ws [] h = absurd (omega arith)
over_first n ws (x ∷ xs) h = refl

module _
    (n : ℕ) (ms : List Mark) (row : List ℕ) (i : ℕ) (out : List ℕ)
    (was : out ≡ over (n ∷ marks_words (take i ms)) row)
  where
    pub row_more : (d : Mark) → i < length ms → 2 * length ms < length row →
        set (set out (1 + 2 * i) (get_or ms i d).arrival) (2 + 2 * i) (get_or ms i d).boats
        ≡ over (n ∷ marks_words (take (i + 1) ms)) row
    row_more d h fits =
        (λ j. set (set (was j) (at j) m.arrival) (at_next j) m.boats)
        ∙ ap (λ (l : List ℕ). set l (length (ws ++ m.arrival ∷ [])) m.boats) one
        ∙ over_more (ws ++ m.arrival ∷ []) row m.boats (omega (arith, at_next))
        ∙ ap (λ (l : List ℕ). over (n ∷ l) row) (sym (ap marks_words (take_more ms i d h) ∙ words_push (take i ms) m))
      where
        m : Mark
        m = get_or ms i d

        ws : List ℕ
        ws = n ∷ marks_words (take i ms)

        at : 1 + 2 * i ≡ length ws
        at = omega (arith, words_length (take i ms), length-take-le i ms (omega arith))

        one : set (over ws row) (length ws) m.arrival ≡ over (ws ++ m.arrival ∷ []) row
        one = over_more ws row m.arrival (omega (arith, at))

        at_next : 2 + 2 * i ≡ length (ws ++ m.arrival ∷ [])
        at_next = omega (arith, length_push ws m.arrival, at)

-- what the writer of a row with room owes
module _ (ms all : List Mark) (xs : List ℕ) (are : ms ≡ all) (room : row_room ≤ length xs) where
  enough : ltb (length xs) row_room ≡ false
  enough = grind (arith, nat_tests)

  pub row_told : Ok (length ms) ≡ row_reply all xs
  row_told =
      let done : List Mark → Result ℕ Refusal = λ l. Ok (length l) in
      ap done are ∙ sym (cond-false (ltb (length xs) row_room) _ (done all) enough)

  pub row_all : (i : ℕ) (out : List ℕ) → length ms ≤ i →
      out ≡ over (length ms ∷ marks_words (take i ms)) (set xs 0 (length ms)) → out ≡ row_after all xs
  row_all i out past was =
      was
      ∙ ap (λ (l : List Mark). over (length ms ∷ marks_words l) (set xs 0 (length ms))) (take_all i ms past)
      ∙ over_first (length ms) (marks_words ms) xs (omega arith)
      ∙ ap (λ (l : List Mark). over (front_words l) xs) are
      ∙ sym (cond-false (ltb (length xs) row_room) xs (over (front_words all) xs) enough)

-- An itinerary that was written to a row is read from its front again; and those of all marks, one behind the other.
use Rattle.std.proofs.Common.{◌≡◌, ℕ, ◌+◌, ◌*◌, ◌<◌, ◌≤◌, List, [], ◌∷◌, ◌++◌, length, get_or, take, drop, sym, refl, ap, ◌∙◌, subst, arith, length-append, length-drop}
use Rattle.std.proofs.lemmas.List.{take_more, take_all}
use lib.Seq.{take-append-le}
use Rattle.plan.specs.declared.leg.Leg.{Leg}
use Rattle.plan.specs.Legs.{Plan}
use Rattle.journey.specs.declared.question.Question.{Question}
use Rattle.marks.specs.declared.mark.Mark.{Mark}
use Rattle.marks.specs.Row.{over}
use Rattle.itinerary.specs.Named.{names_words, itinerary_words, Written}
use Rattle.serving.specs.Responses.{Itineraries, no_marks, and_mark}

names_length : (legs : List Leg) → length (names_words legs) ≡ 2 * length legs
unfolding names_words
names_length [] = refl
names_length (a ∷ rest) = let ih = names_length rest in omega arith

over_length : (ws xs : List ℕ) → length (over ws xs) ≡ length xs → length ws ≤ length xs
over_length ws xs e = omega (arith, e, length-append ws (drop (length ws) xs), length-drop (length ws) xs)

module _ {p : Plan} {q : Question} {m : Mark} {row : List ℕ} {n : ℕ} {row₁ : List ℕ} (w : Written p q m row n row₁) where
  -- the row has room for what was written to it
  pub written_room : length row₁ ≡ length row → 1 + 2 * n ≤ length row
  written_room same =
      omega (arith, over_length (itinerary_words w.legs) row (ap length (sym w.after) ∙ same), names_length w.legs, w.many)

  written_front : take (1 + 2 * n) row₁ ≡ itinerary_words w.legs
  written_front =
      ap (take (1 + 2 * n)) w.after
      ∙ ap (λ (k : ℕ). take k (over (itinerary_words w.legs) row)) long
      ∙ take-append-le (length ws) ws (drop (length ws) row) (omega arith)
      ∙ take_all (length ws) ws (omega arith)
    where
      ws : List ℕ
      ws = itinerary_words w.legs

      long : 1 + 2 * n ≡ length ws
      long = omega (arith, names_length w.legs, w.many)

  -- one mark more has its itinerary
  pub itineraries_more : (ms : List Mark) (i : ℕ) (d : Mark) (ns ns₁ : List ℕ) (k : ℕ) → i < length ms → get_or ms i d ≡ m →
      Itineraries p q (take i ms) ns → k ≡ 1 + 2 * n → ns₁ ≡ ns ++ take k row₁ → Itineraries p q (take (i + 1) ms) ns₁
  itineraries_more ms i d ns ns₁ k h is so long e =
      subst (λ (l : List ℕ). Itineraries p q (take (i + 1) ms) l)
      (sym (e ∙ ap (λ (l : List ℕ). ns ++ l) (ap (λ (j : ℕ). take j row₁) long ∙ written_front)))
      (subst (λ (l : List Mark). Itineraries p q l (ns ++ itinerary_words w.legs))
      (sym (take_more ms i d h ∙ ap (λ (x : Mark). take i ms ++ x ∷ []) is)) (and_mark so w.itinerary))

module _ {p : Plan} {q : Question} where
  -- before the first mark, and after the last
  pub itineraries_none : (ns : List ℕ) → ns ≡ [] → Itineraries p q [] ns
  itineraries_none ns e = subst (λ (l : List ℕ). Itineraries p q [] l) (sym e) no_marks

  pub itineraries_all : (ms : List Mark) (i : ℕ) (ns : List ℕ) → length ms ≤ i → Itineraries p q (take i ms) ns → Itineraries p q ms ns
  itineraries_all ms i ns h so = subst (λ (l : List Mark). Itineraries p q l ns) (take_all i ms h) so

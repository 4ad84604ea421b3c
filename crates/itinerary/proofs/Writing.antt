-- The legs of an itinerary written to a row, number by number.
use Rattle.std.proofs.Common.{◌≡◌, ℕ, zero, suc, ◌+◌, ◌-◌, ◌*◌, ◌<◌, ◌≤◌, true, ◌&&◌, eqb, Decides, ◌⊎◌, List, [], ◌∷◌, ◌++◌, map, length, get_or, take, drop, set, sym, refl, ap, ◌∙◌, subst, inl, inr, ⊎_elim, arith, length-drop}
use Rattle.std.specs.List.{list_any}
use Rattle.std.proofs.lemmas.Bool.{false≢true, or_cases, or_left, or_right}
use Rattle.std.proofs.lemmas.Bool.Decides.{nat_tests}
use Rattle.std.proofs.lemmas.List.{take_more, take_all, take_rest, length-take-le, length_push, length-map, get_or-drop}
use Rattle.plan.specs.declared.leg.Leg.{Leg}
use Rattle.plan.specs.Legs.{Plan, leg}
use Rattle.journey.specs.declared.question.Question.{Question}
use Rattle.marks.specs.declared.mark.Mark.{Mark}
use Rattle.marks.specs.Marks.{Among, among_first, among_later}
use Rattle.marks.specs.Row.{over}
use Rattle.marks.proofs.Row.{over_more, over_first}
use Rattle.itinerary.specs.Order.{Itinerary}
use Rattle.itinerary.specs.Tracing.{Places, legs_from}
use Rattle.itinerary.specs.Named.{names_words, itinerary_words, Written}

-- the legs at the places of a list, by the leg that each place has
module _ (f : ℕ → Leg) where
  words_length : (ps : List ℕ) → length (names_words (map f ps)) ≡ 2 * length ps
  unfolding names_words
  words_length [] = refl
  words_length (x ∷ ps) = let ih = words_length ps in omega arith

  words_push : (ps : List ℕ) (x : ℕ) →
      names_words (map f (ps ++ x ∷ [])) ≡ (names_words (map f ps) ++ (f x).run ∷ []) ++ (f x).number ∷ []
  unfolding names_words
  words_push [] x = refl
  words_push (y ∷ ps) x = ap (λ (l : List ℕ). (f y).run ∷ (f y).number ∷ l) (words_push ps x)

  -- the count, and the first so many legs: as the loop begins, after one more, and after all
  pub legs_row_none : (n : ℕ) (ps xs : List ℕ) → 0 < length xs →
      set xs 0 n ≡ over (n ∷ names_words (map f (take 0 ps))) (set xs 0 n)
  unfolding names_words
  legs_row_none n ps [] h = absurd (omega arith)
  legs_row_none n ps (x ∷ xs) h = refl

  pub legs_row_more : (n : ℕ) (ps row out : List ℕ) (i : ℕ) → out ≡ over (n ∷ names_words (map f (take i ps))) row →
      i < length ps → 2 * length ps < length row → (a : Leg) → a ≡ f (get_or ps i 0) →
      set (set out (1 + 2 * i) a.run) (2 + 2 * i) a.number ≡ over (n ∷ names_words (map f (take (i + 1) ps))) row
  legs_row_more n ps row out i was h fits a is =
      ap (λ (b : Leg). set (set out (1 + 2 * i) b.run) (2 + 2 * i) b.number) is
      ∙ (λ j. set (set (was j) (at j) m.run) (at_next j) m.number)
      ∙ ap (λ (l : List ℕ). set l (length (ws ++ m.run ∷ [])) m.number) one
      ∙ over_more (ws ++ m.run ∷ []) row m.number (omega (arith, at_next))
      ∙ ap (λ (l : List ℕ). over (n ∷ l) row)
      (sym (ap (λ (l : List ℕ). names_words (map f l)) (take_more ps i 0 h) ∙ words_push (take i ps) (get_or ps i 0)))
    where
      m : Leg
      m = f (get_or ps i 0)

      ws : List ℕ
      ws = n ∷ names_words (map f (take i ps))

      at : 1 + 2 * i ≡ length ws
      at = omega (arith, words_length (take i ps), length-take-le i ps (omega arith))

      one : set (over ws row) (length ws) m.run ≡ over (ws ++ m.run ∷ []) row
      one = over_more ws row m.run (omega (arith, at))

      at_next : 2 + 2 * i ≡ length (ws ++ m.run ∷ [])
      at_next = omega (arith, length_push ws m.run, at)

  pub legs_row_all : (ps xs out : List ℕ) (i : ℕ) → 0 < length xs → length ps ≤ i →
      out ≡ over (length ps ∷ names_words (map f (take i ps))) (set xs 0 (length ps)) →
      out ≡ over (itinerary_words (map f ps)) xs
  legs_row_all ps xs out i some past was =
      was
      ∙ ap (λ (l : List ℕ). over (length ps ∷ names_words (map f l)) (set xs 0 (length ps))) (take_all i ps past)
      ∙ over_first (length ps) (names_words (map f ps)) xs some
      ∙ ap (λ (n : ℕ). over (n ∷ names_words (map f ps)) xs) (sym (length-map ps f))

-- ---- the rest of a row from a place on, as a slice has it
pub places_rest : (n : ℕ) (row : List ℕ) (at : ℕ) → at ≤ length row → Places n at row →
    (c : ℕ) → c < length (take (length row - at) (drop at row)) → get_or (take (length row - at) (drop at row)) c 0 < n
places_rest n row at h ps =
    subst (λ (l : List ℕ). (c : ℕ) → c < length l → get_or l c 0 < n) (sym (take_rest row at))
    (λ c less. omega (arith, get_or-drop at row c 0, ps (at + c) (omega arith) (omega (arith, length-drop at row))))

-- the itinerary whose places stand in the rest of a row was written
pub written_rest : {p : Plan} {q : Question} {m : Mark} (row : List ℕ) (at : ℕ) (out out₁ : List ℕ) →
    Itinerary p q m.arrival m.boats (legs_from p at row) →
    out₁ ≡ over (itinerary_words (map (leg p) (take (length row - at) (drop at row)))) out →
    Written p q m out (length (take (length row - at) (drop at row))) out₁
written_rest {p} {q} {m} row at out out₁ it after = record {
  legs = map (leg p) (take (length row - at) (drop at row));
  itinerary = subst (λ (l : List ℕ). Itinerary p q m.arrival m.boats (map (leg p) l)) (sym (take_rest row at)) it;
  many = sym (length-map (take (length row - at) (drop at row)) (leg p));
  after = after;
}

-- ---- a search for a mark
pub among_at : (ms : List Mark) (i : ℕ) (m d : Mark) → i < length ms → get_or ms i d ≡ m → Among m ms
among_at [] i m d h e = absurd (omega arith)
among_at (x ∷ ms) zero m d h e = subst (λ (z : Mark). Among m (z ∷ ms)) (sym e) among_first
among_at (x ∷ ms) (suc i) m d h e = among_later (among_at ms i m d (omega arith) e)

among_or_later : {m n : Mark} {ms : List Mark} → Among m (n ∷ ms) → (n ≡ m) ⊎ Among m ms
among_or_later among_first = inl refl
among_or_later (among_later a) = inr a

-- a list contains the mark if one of its marks equals it
pub among_contains : (m : Mark) (ms : List Mark) →
    Decides (list_any (λ n. eqb n.arrival m.arrival && eqb n.boats m.boats) ms) (Among m ms)
among_contains m [] = (λ e. absurd (false≢true e), λ a. elim a [ ])
among_contains m (n ∷ ms) =
    let later = among_contains m ms in (
      λ e. ⊎_elim same (λ f. among_later (later.0 f)) (or_cases (eqb n.arrival m.arrival && eqb n.boats m.boats) _ e),
      λ a. ⊎_elim (λ is. or_left _ _ (equal is)) (λ b. or_right _ _ (later.1 b)) (among_or_later a),
    )
  where
    same : (eqb n.arrival m.arrival && eqb n.boats m.boats) ≡ true → Among m (n ∷ ms)
    same e =
        let arrival : m.arrival ≡ n.arrival = grind (arith, nat_tests) in
        let boats : m.boats ≡ n.boats = grind (arith, nat_tests) in
        let is : m ≡ n = λ i. record { arrival = arrival i; boats = boats i } in
        subst (λ (z : Mark). Among m (z ∷ ms)) is among_first

    equal : n ≡ m → (eqb n.arrival m.arrival && eqb n.boats m.boats) ≡ true
    equal is = rw is (grind (arith, nat_tests))

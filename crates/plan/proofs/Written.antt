-- Memory that a plan was written into.
use Rattle.std.proofs.Common.{◌≡◌, ℕ, ◌≤◌, List, ◌++◌, length, take, drop, sym, refl, ap, ◌∙◌, subst, arith}
use lib.Seq.{take-append-le}
use Rattle.std.proofs.lemmas.List.{length-append, length-drop, take_all}
use Rattle.std.proofs.lemmas.Slice.{drop-append-drop}
use Rattle.plan.specs.Legs.{Plan}
use Rattle.plan.specs.Words.{plan_in, plan_end, Whole, words, written}
use Rattle.plan.specs.Sound.{Sound, Few, Usable}
use Rattle.plan.proofs.Parts.{count_piers, count_legs, count_walks}
use Rattle.plan.proofs.ReadBack.{length_legs_words, length_walks_words, length_words, read_written}
use Rattle.plan.proofs.LegWords.{written_same}

-- memory that has room for the plan is as long as it was
pub length_written : (p : Plan) (xs : List ℕ) → length (words p) ≤ length xs → length (written p xs) ≡ length xs
unfolding written
length_written p xs h = length-append (words p) _ ∙ simp length-drop (omega arith)

-- a plan that is no shorter hides the one before
pub written_over : (p q : Plan) (xs : List ℕ) → length (words p) ≤ length (words q) → written q (written p xs) ≡ written q xs
unfolding written
written_over p q xs h = ap (λ t. words q ++ t) (drop-append-drop (length (words p)) xs (words p) (length (words q)) h refl)

whole_words : (p : Plan) (t : List ℕ) → Whole (words p ++ t)
unfolding words
whole_words p t = simp length-append (omega (arith, length_legs_words p.legs, length_walks_words p.walks))

pub whole_written : (p : Plan) (xs : List ℕ) → Whole (written p xs)
unfolding written
whole_written p xs = whole_words p (drop (length (words p)) xs)

pub usable_written : (p : Plan) (xs : List ℕ) → Few p → Sound p → Usable (written p xs)
usable_written p xs few sound =
    let whole = whole_written p xs in
    let same = sym (read_written p xs) in
    record { long = omega (arith, whole); whole = whole; few = subst Few same few; sound = subst Sound same sound }

-- the plan that words hold ends where their counts say, and its numbers are those that stand there
pub length_held : (xs : List ℕ) → Whole xs → length (words (plan_in xs)) ≡ plan_end xs
length_held xs h =
    omega (arith, length_words (plan_in xs), count_piers xs h, count_legs xs, count_walks xs)

pub words_held : (xs : List ℕ) → Whole xs → take (plan_end xs) xs ≡ words (plan_in xs)
unfolding written
words_held xs h =
    let ws = words (plan_in xs) in
    (λ i. take (sym (length_held xs h) i) (sym (written_same xs h) i))
    ∙ take-append-le (length ws) ws (drop (length ws) xs) (omega arith) ∙ take_all (length ws) ws (omega arith)

pub plan_copied : (xs ys part : List ℕ) (k : ℕ) → Whole xs → k ≡ plan_end xs → part ≡ take k xs →
    part ++ drop k ys ≡ written (plan_in xs) ys
unfolding written
plan_copied xs ys part k h end e =
    let same : part ≡ words (plan_in xs) = e ∙ ap (λ (n : ℕ). take n xs) end ∙ words_held xs h in
    let long : k ≡ length (words (plan_in xs)) = end ∙ sym (length_held xs h) in
    λ i. same i ++ drop (long i) ys

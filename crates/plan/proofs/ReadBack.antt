-- A plan that was written is read back as it was.
use Rattle.std.proofs.Common.{◌≡◌, ℕ, suc, ◌+◌, ◌*◌, List, [], ◌∷◌, ◌++◌, length, take, drop, sym, refl, ap, ◌∙◌, arith}
use Rattle.std.proofs.lemmas.List.{append_assoc, length-append, take_at, drop_at}
use Rattle.plan.specs.declared.leg.Leg.{Leg}
use Rattle.plan.specs.declared.walk.Walk.{Walk}
use Rattle.plan.specs.Legs.{Plan}
use Rattle.plan.specs.Words.{legs_in, walks_in, plan_in, legs_words, walks_words, words, written}

legs_back : (ls : List Leg) (t : List ℕ) → legs_in (length ls) (legs_words ls ++ t) ≡ ls
unfolding legs_in legs_words
legs_back [] t = refl
legs_back (a ∷ ls) t = ap (λ u. a ∷ u) (legs_back ls t)

walks_back : (ws : List Walk) (t : List ℕ) → walks_in (length ws) (walks_words ws ++ t) ≡ ws
unfolding walks_in walks_words
walks_back [] t = refl
walks_back (w ∷ ws) t = ap (λ u. w ∷ u) (walks_back ws t)

pub length_legs_words : (ls : List Leg) → length (legs_words ls) ≡ 6 * length ls
unfolding legs_words
length_legs_words [] = refl
length_legs_words (a ∷ ls) = omega (arith, length_legs_words ls)

pub length_walks_words : (ws : List Walk) → length (walks_words ws) ≡ 3 * length ws
unfolding walks_words
length_walks_words [] = refl
length_walks_words (w ∷ ws) = omega (arith, length_walks_words ws)

pub length_words : (p : Plan) → length (words p) ≡ 3 + length p.change + 6 * length p.legs + 3 * length p.walks
unfolding words
length_words p = simp length-append (omega (arith, length_legs_words p.legs, length_walks_words p.walks))

past_three : (n a b c : ℕ) (xs : List ℕ) → drop (3 + n) (a ∷ b ∷ c ∷ xs) ≡ drop n xs
past_three n a b c xs = let e : 3 + n ≡ suc (suc (suc n)) = omega arith in ap (λ k. drop k (a ∷ b ∷ c ∷ xs)) e

-- The counts are the lengths of the three lists, so each part begins where the one before it ends.
pub read_back : (p : Plan) (t : List ℕ) → plan_in (words p ++ t) ≡ p
unfolding plan_in words
read_back p t =
    let c = p.change in
    let n = length p.legs in
    let L = legs_words p.legs in
    let W = walks_words p.walks in
    let all : (c ++ (L ++ W)) ++ t ≡ c ++ (L ++ (W ++ t)) = append_assoc c (L ++ W) t ∙ ap (λ u. c ++ u) (append_assoc L W t) in
    let changes : take (length c) ((c ++ (L ++ W)) ++ t) ≡ c = ap (take (length c)) all ∙ take_at c _ (length c) refl in
    let legs : drop (3 + length c) (words p ++ t) ≡ L ++ (W ++ t) =
    past_three (length c) _ _ _ _ ∙ ap (drop (length c)) all ∙ drop_at c _ (length c) refl in
    let f : 3 + length c + 6 * n ≡ 3 + (length c + 6 * n) = omega arith in
    let g : length (c ++ L) ≡ length c + 6 * n = length-append c L ∙ ap (λ k. length c + k) (length_legs_words p.legs) in
    let walks : drop (3 + length c + 6 * n) (words p ++ t) ≡ W ++ t =
    ap (λ k. drop k (words p ++ t)) f
    ∙ past_three (length c + 6 * n) (length c) n (length p.walks) ((c ++ (L ++ W)) ++ t)
    ∙ ap (drop (length c + 6 * n)) (all ∙ sym (append_assoc c L (W ++ t)))
    ∙ drop_at (c ++ L) (W ++ t) _ g in
    λ i. record {
      legs = (ap (legs_in n) legs ∙ legs_back p.legs (W ++ t)) i;
      walks = (ap (walks_in (length p.walks)) walks ∙ walks_back p.walks t) i;
      change = changes i;
    }

pub read_written : (p : Plan) (xs : List ℕ) → plan_in (written p xs) ≡ p
unfolding written
read_written p xs = read_back p (drop (length (words p)) xs)

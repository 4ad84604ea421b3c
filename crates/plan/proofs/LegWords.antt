-- What stands in the words of a plan after a leg was put, taken out or added.
use Rattle.std.proofs.Common.{◌≡◌, ℕ, zero, suc, ◌+◌, ◌-◌, ◌*◌, ◌<◌, ◌≤◌, List, [], ◌∷◌, ◌++◌, length, get_or, take, drop, set, sym, refl, ap, ◌∙◌, arith, take-add}
use lib.Seq.{paste, set_split}
use borrow.Rule.Slice.PartMut.{put_mid}
use Rattle.std.specs.List.{remove}
use Rattle.std.proofs.lemmas.List.Edits.{length-remove}
use Rattle.std.proofs.lemmas.List.{append_assoc, length-append, length-drop, length-take-le, take-append-drop, length-set, drop_at, take-take, take-append-le, drop-drop}
use Rattle.plan.specs.declared.leg.Leg.{Leg}
use Rattle.plan.specs.Legs.{with_legs}
use Rattle.plan.specs.Words.{leg_of, legs_in, walks_in, legs_start, walks_start, plan_end, Whole, plan_in, leg_words, legs_words, walks_words, words, written}
use Rattle.plan.proofs.Parts.{length_legs, length_walks, count_legs}
use Rattle.plan.proofs.ReadBack.{length_legs_words}

-- ---- the numbers of what is read are the numbers that stand there
leg_words_of : (xs : List ℕ) → 6 ≤ length xs → leg_words (leg_of xs) ++ drop 6 xs ≡ xs
leg_words_of (a ∷ b ∷ c ∷ d ∷ e ∷ f ∷ xs) h = refl
leg_words_of (a ∷ b ∷ c ∷ d ∷ e ∷ []) h = absurd (omega arith)
leg_words_of (a ∷ b ∷ c ∷ d ∷ []) h = absurd (omega arith)
leg_words_of (a ∷ b ∷ c ∷ []) h = absurd (omega arith)
leg_words_of (a ∷ b ∷ []) h = absurd (omega arith)
leg_words_of (a ∷ []) h = absurd (omega arith)
leg_words_of [] h = absurd (omega arith)

legs_words_in : (n : ℕ) (xs : List ℕ) → 6 * n ≤ length xs → legs_words (legs_in n xs) ≡ take (6 * n) xs
unfolding legs_in legs_words
legs_words_in zero xs h = refl
legs_words_in (suc n) xs h =
    let e : 6 + 6 * n ≡ 6 * suc n = omega arith in
    let six : take 6 xs ≡ leg_words (leg_of xs) = ap (take 6) (sym (leg_words_of xs (omega arith))) in
    let rest : 6 * n ≤ length (drop 6 xs) = simp length-drop (omega arith) in
    ap (λ t. leg_words (leg_of xs) ++ t) (legs_words_in n (drop 6 xs) rest)
    ∙ ap (λ t. t ++ take (6 * n) (drop 6 xs)) (sym six)
    ∙ sym (take-add 6 (6 * n) xs) ∙ ap (λ k. take k xs) e

walks_words_in : (n : ℕ) (xs : List ℕ) → 3 * n ≤ length xs → walks_words (walks_in n xs) ≡ take (3 * n) xs
unfolding walks_in walks_words
walks_words_in zero xs h = refl
walks_words_in (suc n) (a ∷ b ∷ c ∷ xs) h =
    let e : suc (suc (suc (3 * n))) ≡ 3 * suc n = omega arith in
    ap (λ t. a ∷ b ∷ c ∷ t) (walks_words_in n xs (omega arith)) ∙ ap (λ k. take k (a ∷ b ∷ c ∷ xs)) e
walks_words_in (suc n) (a ∷ b ∷ []) h = absurd (omega arith)
walks_words_in (suc n) (a ∷ []) h = absurd (omega arith)
walks_words_in (suc n) [] h = absurd (omega arith)

-- ---- some of the legs
legs_words_append : (ls ms : List Leg) → legs_words (ls ++ ms) ≡ legs_words ls ++ legs_words ms
unfolding legs_words
legs_words_append [] ms = refl
legs_words_append (a ∷ ls) ms = ap (λ t. leg_words a ++ t) (legs_words_append ls ms)

legs_words_one : (a : Leg) → legs_words (a ∷ []) ≡ leg_words a
unfolding legs_words
legs_words_one a = refl

legs_words_none : legs_words [] ≡ []
unfolding legs_words
legs_words_none = refl

take_legs_in : (i n : ℕ) (xs : List ℕ) → i ≤ n → take i (legs_in n xs) ≡ legs_in i xs
unfolding legs_in
take_legs_in zero n xs h = refl
take_legs_in (suc i) zero xs h = absurd (omega arith)
take_legs_in (suc i) (suc n) xs h = ap (λ t. leg_of xs ∷ t) (take_legs_in i n (drop 6 xs) (omega arith))

drop_legs_in : (i n : ℕ) (xs : List ℕ) → drop i (legs_in n xs) ≡ legs_in (n - i) (drop (6 * i) xs)
unfolding legs_in
drop_legs_in zero n xs = let e : n ≡ n - 0 = omega arith in ap (λ k. legs_in k xs) e
drop_legs_in (suc i) zero xs = let e : 0 ≡ 0 - suc i = omega arith in ap (λ k. legs_in k (drop (6 * suc i) xs)) e
drop_legs_in (suc i) (suc n) xs =
    let e : n - i ≡ suc n - suc i = omega arith in
    let f : 6 + 6 * i ≡ 6 * suc i = omega arith in
    drop_legs_in i n (drop 6 xs) ∙ (λ j. legs_in (e j) ((drop-drop (6 * i) 6 xs ∙ ap (λ k. drop k xs) f) j))

three : (xs : List ℕ) (k : ℕ) → 3 ≤ length xs →
    take (3 + k) xs ≡ get_or xs 0 0 ∷ get_or xs 1 0 ∷ get_or xs 2 0 ∷ take k (drop 3 xs)
three (a ∷ b ∷ c ∷ xs) k h = let e : 3 + k ≡ suc (suc (suc k)) = omega arith in ap (λ m. take m (a ∷ b ∷ c ∷ xs)) e
three (a ∷ b ∷ []) k h = absurd (omega arith)
three (a ∷ []) k h = absurd (omega arith)
three [] k h = absurd (omega arith)

module _ (xs : List ℕ) (h : Whole xs) where
  abbrev p : ℕ
  p = get_or xs 0 0

  abbrev n : ℕ
  n = get_or xs 1 0

  abbrev w : ℕ
  w = get_or xs 2 0

  -- the changes, the legs' numbers and the walks' numbers, and what stands behind a plan with so many legs
  abbrev changes : List ℕ
  changes = take p (drop 3 xs)

  abbrev from_legs : List ℕ
  from_legs = drop (legs_start xs) xs

  abbrev from_walks : List ℕ
  from_walks = drop (walks_start xs) xs

  abbrev behind : ℕ → List ℕ
  behind m = drop (3 + p + 6 * m + 3 * w) xs

  -- a plan with other legs, written out: only the count, the legs and what stands behind the plan differ
  written_with : (ls : List Leg) →
      written (with_legs (plan_in xs) ls) xs ≡ p ∷ length ls ∷ w ∷
      (changes ++ (legs_words ls ++ (take (3 * w) from_walks ++ behind (length ls))))
  unfolding written words plan_in
  written_with ls =
      let ws = walks_in w from_walks in
      let long : p ≤ length (drop 3 xs) = simp length-drop (omega (arith, h)) in
      let more : 3 * w ≤ length from_walks = simp length-drop (omega (arith, h)) in
      let c : length changes ≡ p = length-take-le p (drop 3 xs) long in
      let v : walks_words ws ≡ take (3 * w) from_walks = walks_words_in w from_walks more in
      let u : length ws ≡ w = length_walks w from_walks in
      let size : suc (suc (suc (length (changes ++ (legs_words ls ++ walks_words ws))))) ≡ 3 + p + 6 * length ls + 3 *
      w =
      simp (length-append, v) (omega (arith, c, length_legs_words ls, length-take-le (3 * w) from_walks more)) in
      (λ i. c i ∷ length ls ∷ u i ∷ ((changes ++ (legs_words ls ++ v i)) ++ drop (size i) xs))
      ∙ ap (λ t. p ∷ length ls ∷ w ∷ t)
      (append_assoc changes (legs_words ls ++ take (3 * w) from_walks) _ ∙ ap (λ t. changes ++ t)
      (append_assoc (legs_words ls) _ _))

  -- the words up to some of the legs
  up_to : (k : ℕ) → take (3 + p + k) xs ≡ p ∷ n ∷ w ∷ (changes ++ take k from_legs)
  up_to k =
      let e : 3 + p + k ≡ 3 + (p + k) = omega arith in
      ap (λ m. take m xs) e ∙ three xs (p + k) (omega (arith, h))
      ∙ ap (λ t. p ∷ n ∷ w ∷ t) (take-add p k (drop 3 xs) ∙ ap (λ t. changes ++ take k t) (drop-drop p 3 xs))

  -- the plan that stands there, written over itself
  pub written_same : written (plan_in xs) xs ≡ xs
  unfolding plan_in
  written_same =
      let many = length_legs n from_legs in
      let long : 6 * n ≤ length from_legs = simp length-drop (omega (arith, h)) in
      let legs = legs_words_in n from_legs long in
      let walks : take (3 * w) from_walks ++ behind n ≡ from_walks =
      ap (λ t. take (3 * w) from_walks ++ t) (sym (drop-drop (3 * w) (walks_start xs) xs)) ∙ take-append-drop (3 * w)
      from_walks in
      written_with (legs_in n from_legs)
      ∙ (λ j. p ∷ many j ∷ w ∷ (changes ++ (legs j ++ (take (3 * w) from_walks ++ behind (many j)))))
      ∙ ap (λ t. p ∷ n ∷ w ∷ (changes ++ (take (6 * n) from_legs ++ t))) walks
      ∙ ap (λ t. p ∷ n ∷ w ∷ t) (sym (append_assoc changes (take (6 * n) from_legs) from_walks))
      ∙ ap (λ t. t ++ from_walks) (sym (up_to (6 * n)))
      ∙ take-append-drop (walks_start xs) xs

  -- ---- in place of the leg i there are others
  module _ (i : ℕ) (l : i < n) where
    abbrev at : ℕ
    at = 3 + p + 6 * i

    abbrev past : List ℕ
    past = drop (at + 6) xs

    abbrev ls : List Leg
    ls = legs_in n from_legs

    abbrev m : ℕ
    m = n - suc i

    instead : (mid : List Leg) →
        legs_words (take i ls ++ (mid ++ drop (suc i) ls))
        ≡ take (6 * i) from_legs ++ (legs_words mid ++ take (6 * m) past)
    instead mid =
        let long_x : 6 * i ≤ length from_legs = simp length-drop (omega (arith, h)) in
        let long_s : 6 * m ≤ length past = simp length-drop (omega (arith, h)) in
        let on : 3 + p + 6 * suc i ≡ at + 6 = omega arith in
        let back : drop (6 * suc i) from_legs ≡ past = drop-drop (6 * suc i) (3 + p) xs ∙ ap (λ k. drop k xs) on in
        let low : legs_words (take i ls) ≡ take (6 * i) from_legs =
        ap legs_words (take_legs_in i n from_legs (omega arith)) ∙ legs_words_in i from_legs long_x in
        let high : legs_words (drop (suc i) ls) ≡ take (6 * m) past =
        ap legs_words (drop_legs_in (suc i) n from_legs ∙ ap (legs_in m) back) ∙ legs_words_in m past long_s in
        legs_words_append (take i ls) (mid ++ drop (suc i) ls)
        ∙ (λ j. low j ++ (legs_words_append mid (drop (suc i) ls) ∙ ap (λ t. legs_words mid ++ t) high) j)

    -- behind the leg stand the other legs, then the walks
    rest : past ≡ take (6 * m) past ++ from_walks
    rest =
        let there : at + 6 + 6 * m ≡ walks_start xs = omega arith in
        sym (take-append-drop (6 * m) past) ∙ ap (λ t. take (6 * m) past ++ t)
        (drop-drop (6 * m) (at + 6) xs ∙ ap (λ k. drop k xs) there)

    written_instead : (mid : List Leg) (k : ℕ) → k ≡ length (take i ls ++ (mid ++ drop (suc i) ls)) →
        p ∷ k ∷ w ∷ ((changes ++ take (6 * i) from_legs) ++
        (legs_words mid ++ (take (6 * m) past ++ (take (3 * w) from_walks ++ behind k))))
        ≡ written (with_legs (plan_in xs) (take i ls ++ (mid ++ drop (suc i) ls))) xs
    written_instead mid k e =
        let W = take (3 * w) from_walks in
        let all = take i ls ++ (mid ++ drop (suc i) ls) in
        let one : legs_words mid ++ (take (6 * m) past ++ (W ++ behind k)) ≡ (legs_words mid ++ take (6 * m) past) ++
        (W ++ behind k) =
        sym (append_assoc (legs_words mid) (take (6 * m) past) (W ++ behind k)) in
        ap (λ t. p ∷ k ∷ w ∷ t) (append_assoc changes (take (6 * i) from_legs) _ ∙ ap (λ t. changes ++ t)
        (ap (λ t. take (6 * i) from_legs ++ t) one ∙ sym
        (append_assoc (take (6 * i) from_legs) (legs_words mid ++ take (6 * m) past) (W ++ behind k))
        ∙ ap (λ t. t ++ (W ++ behind k)) (sym (instead mid))))
        ∙ (λ j. p ∷ e j ∷ w ∷ (changes ++ (legs_words all ++ (W ++ behind (e j)))))
        ∙ sym (written_with all)

    put_is : (a : Leg) (size : ℕ) (part : List ℕ) → size ≡ 6 → part ≡ leg_words a →
        put_mid at size xs part ≡ written (with_legs (plan_in xs) (set (plan_in xs).legs i a)) xs
    unfolding plan_in
    put_is a size part six q =
        let many = length_legs n from_legs in
        let split : set ls i a ≡ take i ls ++ (a ∷ drop (suc i) ls) = set_split ls i a (omega arith) in
        let long : n ≡ length (take i ls ++ (a ∷ drop (suc i) ls)) =
        sym many ∙ sym (length-set ls i a) ∙ ap length split in
        let tail : drop 6 (drop at xs) ≡ take (6 * m) past ++ (take (3 * w) from_walks ++ behind n) =
        drop-drop 6 at xs ∙ rest ∙ ap (λ t. take (6 * m) past ++ t)
        (sym (take-append-drop (3 * w) from_walks) ∙ ap (λ t. take (3 * w) from_walks ++ t)
        (drop-drop (3 * w) (walks_start xs) xs)) in
        (λ j. up_to (6 * i) j ++ ((q ∙ sym (legs_words_one a)) j ++ drop (six j) (drop at xs)))
        ∙ ap (λ t. p ∷ n ∷ w ∷ ((changes ++ take (6 * i) from_legs) ++ (legs_words (a ∷ []) ++ t))) tail
        ∙ written_instead (a ∷ []) n long
        ∙ ap (λ t. written (with_legs (plan_in xs) t) xs) (sym split)

    removed_is : (ys : List ℕ) → ys ≡ paste xs at past (plan_end xs - (at + 6)) →
        set ys 1 (n - 1) ≡ written (with_legs (plan_in xs) (remove (plan_in xs).legs i)) xs
    unfolding plan_in
    removed_is ys is =
        let cut : plan_end xs - (at + 6) ≡ 6 * m + 3 * w = omega arith in
        let many : n - 1 ≡ length (remove ls i) =
        omega (arith, length-remove ls i (omega (arith, length_legs n from_legs)), length_legs n from_legs) in
        let end : at + (6 * m + 3 * w) ≡ 3 + p + 6 * (n - 1) + 3 * w = omega arith in
        let there : at + 6 + 6 * m ≡ walks_start xs = omega arith in
        let moved : take (6 * m + 3 * w) past ≡ take (6 * m) past ++ take (3 * w) from_walks =
        take-add (6 * m) (3 * w) past ∙ ap (λ t. take (6 * m) past ++ take (3 * w) t)
        (drop-drop (6 * m) (at + 6) xs ∙ ap (λ k. drop k xs) there) in
        ap (λ t. set t 1 (n - 1))
        (is ∙ ap (paste xs at past) cut ∙ append_assoc (take at xs) (take (6 * m + 3 * w) past) _)
        ∙ (λ j. set (up_to (6 * i) j ++ (moved j ++ drop (end j) xs)) 1 (n - 1))
        ∙ (λ j. p ∷ (n - 1) ∷ w ∷
        ((changes ++ take (6 * i) from_legs) ++
        (sym legs_words_none j ++ append_assoc (take (6 * m) past) (take (3 * w) from_walks) (behind (n - 1)) j)))
        ∙ written_instead [] (n - 1) many

  -- ---- behind the legs there is one more
  added_is : (a : Leg) (size : ℕ) (ys part : List ℕ) → plan_end xs + 6 ≤ length xs → size ≡ 6 →
      ys ≡ paste xs (walks_start xs + 6) from_walks (plan_end xs - walks_start xs) → part ≡ leg_words a →
      set (put_mid (walks_start xs) size ys part) 1 (n + 1) ≡ written
      (with_legs (plan_in xs) ((plan_in xs).legs ++ a ∷ [])) xs
  unfolding plan_in
  added_is a size ys part room six is q =
      let at = walks_start xs in
      let ls = legs_in n from_legs in
      let W = take (3 * w) from_walks in
      let T = drop (at + 6 + 3 * w) xs in
      let cut : plan_end xs - at ≡ 3 * w = omega arith in
      let ys_is : ys ≡ take (at + 6) xs ++ (W ++ T) =
      is ∙ ap (paste xs (at + 6) from_walks) cut ∙ append_assoc (take (at + 6) xs) W T in
      let front = length-take-le (at + 6) xs (omega arith) in
      let low : take at ys ≡ take at xs =
      ap (take at) ys_is ∙ take-append-le at (take (at + 6) xs) (W ++ T) (omega (arith, front)) ∙ take-take at (at + 6)
      xs (omega arith) in
      let high : drop 6 (drop at ys) ≡ W ++ T =
      drop-drop 6 at ys ∙ ap (drop (at + 6)) ys_is ∙ drop_at (take (at + 6) xs) (W ++ T) (at + 6) front in
      let long : 6 * n ≤ length from_legs = simp length-drop (omega arith) in
      let many : n + 1 ≡ length (ls ++ a ∷ []) = omega (arith, length-append ls (a ∷ []), length_legs n from_legs) in
      let past : at + 6 + 3 * w ≡ 3 + p + 6 * length (ls ++ a ∷ []) + 3 * w = omega (arith, many) in
      let new : take (6 * n) from_legs ++ leg_words a ≡ legs_words (ls ++ a ∷ []) =
      (λ j. sym (legs_words_in n from_legs long) j ++ sym (legs_words_one a) j) ∙ sym (legs_words_append ls (a ∷ [])) in
      (λ j. set (low j ++ (q j ++ drop (six j) (drop at ys))) 1 (n + 1))
      ∙ (λ j. set (up_to (6 * n) j ++ (leg_words a ++ high j)) 1 (n + 1))
      ∙ ap (λ t. p ∷ (n + 1) ∷ w ∷ t)
      (append_assoc changes (take (6 * n) from_legs) _ ∙ ap (λ t. changes ++ t)
      (sym (append_assoc (take (6 * n) from_legs) (leg_words a) (W ++ T))))
      ∙ (λ j. p ∷ many j ∷ w ∷ (changes ++ (new j ++ (W ++ drop (past j) xs))))
      ∙ sym (written_with (ls ++ a ∷ []))

-- ---- as the calls leave it, from places and counts that they read
module _ (xs : List ℕ) (h : Whole xs) (i : ℕ) (l : i < length (plan_in xs).legs) (at : ℕ)
    (at_is : at ≡ legs_start xs + 6 * i) where
  below : i < get_or xs 1 0
  below = omega (arith, l, count_legs xs)

  pub leg_put : (a : Leg) (part : List ℕ) → part ≡ leg_words a →
      put_mid at (at + 6 - at) xs part ≡ written (with_legs (plan_in xs) (set (plan_in xs).legs i a)) xs
  leg_put a part q =
      let six : at + 6 - at ≡ 6 = omega arith in
      ap (λ k. put_mid k (at + 6 - at) xs part) at_is ∙ put_is xs h i below a (at + 6 - at) part six q

  pub leg_removed : (end k : ℕ) (ys zs : List ℕ) → end ≡ plan_end xs → k ≡ length (plan_in xs).legs →
      ys ≡ paste xs at (drop (at + 6) xs) (end - (at + 6)) → zs ≡ set ys 1 (k - 1) →
      zs ≡ written (with_legs (plan_in xs) (remove (plan_in xs).legs i)) xs
  leg_removed end k ys zs end_is many moved counted =
      counted ∙ ap (λ j. set ys 1 (j - 1)) (many ∙ count_legs xs)
      ∙ removed_is xs h i below ys
      (moved ∙ (λ j. paste xs (at_is j) (drop (at_is j + 6) xs) (end_is j - (at_is j + 6))))

pub leg_added : (xs : List ℕ) → Whole xs → plan_end xs + 6 ≤ length xs →
    (a : Leg) (at end k : ℕ) (ys part zs : List ℕ) →
    at ≡ walks_start xs → end ≡ plan_end xs → k ≡ length (plan_in xs).legs → ys ≡ paste xs (at + 6) (drop at xs)
    (end - at) →
    part ≡ leg_words a → zs ≡ set (put_mid at (at + 6 - at) ys part) 1 (k + 1) →
    zs ≡ written (with_legs (plan_in xs) ((plan_in xs).legs ++ a ∷ [])) xs
leg_added xs h room a at end k ys part zs at_is end_is many moved q counted =
    let six : at + 6 - at ≡ 6 = omega arith in
    counted ∙ (λ j. set (put_mid (at_is j) (at + 6 - at) ys part) 1 ((many ∙ count_legs xs) j + 1))
    ∙ added_is xs h a (at + 6 - at) ys part room six
    (moved ∙ (λ j. paste xs (at_is j + 6) (drop (at_is j) xs) (end_is j - at_is j))) q

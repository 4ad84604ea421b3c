-- Where the legs, walks and changes of a plan lie in the words that hold it.
use Rattle.std.proofs.Common.{◌≡◌, ℕ, zero, suc, ◌+◌, ◌-◌, ◌*◌, ◌<◌, ◌≤◌, List, length, get_or, take, drop, refl, ap, ◌∙◌, arith, lit<}
use Rattle.std.proofs.lemmas.List.{drop-drop, get_or-take, get_or-drop, length-take-le, length-drop}
use Rattle.plan.specs.Legs.{no_leg, no_walk, leg, walk, change_at, piers}
use Rattle.plan.specs.Words.{leg_of, legs_in, walk_of, walks_in, legs_start, walks_start, Whole, plan_in}

-- ---- how many there are
pub length_legs : (n : ℕ) (xs : List ℕ) → length (legs_in n xs) ≡ n
unfolding legs_in
length_legs zero xs = refl
length_legs (suc n) xs = ap suc (length_legs n (drop 6 xs))

pub length_walks : (n : ℕ) (xs : List ℕ) → length (walks_in n xs) ≡ n
unfolding walks_in
length_walks zero xs = refl
length_walks (suc n) xs = ap suc (length_walks n (drop 3 xs))

pub count_legs : (xs : List ℕ) → length (plan_in xs).legs ≡ get_or xs 1 0
unfolding plan_in
count_legs xs = length_legs (get_or xs 1 0) (drop (legs_start xs) xs)

pub count_walks : (xs : List ℕ) → length (plan_in xs).walks ≡ get_or xs 2 0
unfolding plan_in
count_walks xs = length_walks (get_or xs 2 0) (drop (walks_start xs) xs)

pub count_piers : (xs : List ℕ) → Whole xs → piers (plan_in xs) ≡ get_or xs 0 0
unfolding plan_in
count_piers xs w =
    let d = length-drop 3 xs in
    let h : get_or xs 0 0 ≤ length (drop 3 xs) = omega arith in
    length-take-le (get_or xs 0 0) (drop 3 xs) h

-- ---- the leg i, and the part of the words that holds it
getD_legs : (n : ℕ) (xs : List ℕ) (i : ℕ) → i < n → get_or (legs_in n xs) i no_leg ≡ leg_of (drop (6 * i) xs)
unfolding legs_in
getD_legs zero xs i h = absurd (omega arith)
getD_legs (suc n) xs zero h = refl
getD_legs (suc n) xs (suc i) h =
    let k : i < n = omega arith in
    let e : 6 + 6 * i ≡ 6 * suc i = omega arith in
    getD_legs n (drop 6 xs) i k ∙ ap leg_of (drop-drop (6 * i) 6 xs ∙ ap (λ j. drop j xs) e)

leg_of_take : (xs : List ℕ) → leg_of (take 6 xs) ≡ leg_of xs
leg_of_take xs =
    let a = get_or-take 6 xs 0 0 (lit< tt) in
    let b = get_or-take 6 xs 1 0 (lit< tt) in
    let c = get_or-take 6 xs 2 0 (lit< tt) in
    let d = get_or-take 6 xs 3 0 (lit< tt) in
    let e = get_or-take 6 xs 4 0 (lit< tt) in
    let f = get_or-take 6 xs 5 0 (lit< tt) in
    cc

pub leg_part : (xs : List ℕ) (i at : ℕ) → i < length (plan_in xs).legs → at ≡ legs_start xs + 6 * i →
    leg_of (take (at + 6 - at) (drop at xs)) ≡ leg (plan_in xs) i
unfolding plan_in
leg_part xs i at h e =
    let n = length_legs (get_or xs 1 0) (drop (legs_start xs) xs) in
    let k : i < get_or xs 1 0 = omega arith in
    let six : at + 6 - at ≡ 6 = omega arith in
    let l = getD_legs (get_or xs 1 0) (drop (legs_start xs) xs) i k in
    let t = leg_of_take (drop at xs) in
    let dd = drop-drop (6 * i) (legs_start xs) xs in
    cc

-- ---- the walk j
getD_walks : (n : ℕ) (xs : List ℕ) (j : ℕ) → j < n → get_or (walks_in n xs) j no_walk ≡ walk_of (drop (3 * j) xs)
unfolding walks_in
getD_walks zero xs j h = absurd (omega arith)
getD_walks (suc n) xs zero h = refl
getD_walks (suc n) xs (suc j) h =
    let k : j < n = omega arith in
    let e : 3 + 3 * j ≡ 3 * suc j = omega arith in
    getD_walks n (drop 3 xs) j k ∙ ap walk_of (drop-drop (3 * j) 3 xs ∙ ap (λ i. drop i xs) e)

walk_of_take : (xs : List ℕ) → walk_of (take 3 xs) ≡ walk_of xs
walk_of_take xs =
    let a = get_or-take 3 xs 0 0 (lit< tt) in
    let b = get_or-take 3 xs 1 0 (lit< tt) in
    let c = get_or-take 3 xs 2 0 (lit< tt) in
    cc

pub walk_part : (xs : List ℕ) (j at : ℕ) → j < length (plan_in xs).walks → at ≡ walks_start xs + 3 * j →
    walk_of (take (at + 3 - at) (drop at xs)) ≡ walk (plan_in xs) j
unfolding plan_in
walk_part xs j at h e =
    let n = length_walks (get_or xs 2 0) (drop (walks_start xs) xs) in
    let k : j < get_or xs 2 0 = omega arith in
    let three : at + 3 - at ≡ 3 = omega arith in
    let l = getD_walks (get_or xs 2 0) (drop (walks_start xs) xs) j k in
    let t = walk_of_take (drop at xs) in
    let dd = drop-drop (3 * j) (walks_start xs) xs in
    cc

-- ---- the change of a pier
pub change_part : (xs : List ℕ) (s : ℕ) → Whole xs → s < piers (plan_in xs) → get_or xs (3 + s) 0 ≡ change_at (plan_in xs) s
unfolding plan_in
change_part xs s w h =
    let n = count_piers xs w in
    let k : s < get_or xs 0 0 = omega arith in
    let t = get_or-take (get_or xs 0 0) (drop 3 xs) s 0 k in
    let d = get_or-drop 3 xs s 0 in
    cc

-- what the reading of a plan's parts is proved from
pub ruleset parts = (count_piers, count_legs, count_walks, leg_part, walk_part, change_part)

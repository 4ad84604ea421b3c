-- Numbers of a file, one by one.
use Rattle.std.proofs.Common.{◌≡◌, ℕ, zero, suc, ◌+◌, ◌*◌, ◌<◌, min, List, [], ◌∷◌, ◌++◌, length, get_or, take, drop, sym, refl, ap, ◌∙◌, arith}
use Rattle.std.proofs.lemmas.List.{drop-drop, get_or-drop, get_or_append_left}
use Rattle.files.specs.Numbers.{number_at, numbers_in}

-- the number that four bytes write down, whatever stands behind them
pub number_front : (xs ys : List ℕ) → length xs ≡ 4 → number_at (xs ++ ys) 0 ≡ number_at xs 0
number_front xs ys e =
    let at : (k : ℕ) → k < 4 → get_or (xs ++ ys) k 0 ≡ get_or xs k 0 = λ k h. get_or_append_left xs ys 0 k (omega arith) in
    λ i. at 0 (omega arith) i + at 1 (omega arith) i * 256 + at 2 (omega arith) i * 65536 + at 3 (omega arith) i * 16777216

-- a number of what is left of a file
pub number_drop : (b at : ℕ) (bs : List ℕ) → number_at (drop b bs) at ≡ number_at bs (b + at)
number_drop b at bs =
    let one : b + (at + 1) ≡ b + at + 1 = omega arith in
    let two : b + (at + 2) ≡ b + at + 2 = omega arith in
    let three : b + (at + 3) ≡ b + at + 3 = omega arith in
    let read : (k : ℕ) → get_or (drop b bs) k 0 ≡ get_or bs (b + k) 0 = λ k. get_or-drop b bs k 0 in
    λ i.
    read at i + (read (at + 1) ∙ ap (λ k. get_or bs k 0) one) i * 256 + (read (at + 2) ∙ ap (λ k. get_or bs k 0) two) i * 65536
    + (read (at + 3) ∙ ap (λ k. get_or bs k 0) three) i * 16777216

pub numbers_none : (bs : List ℕ) → numbers_in 0 bs ≡ []
unfolding numbers_in
numbers_none bs = refl

pub numbers_more : (n : ℕ) (bs : List ℕ) → numbers_in (suc n) bs ≡ number_at bs 0 ∷ numbers_in n (drop 4 bs)
unfolding numbers_in
numbers_more n bs = refl

-- the first of so many numbers
pub take-numbers_in : (n m : ℕ) (bs : List ℕ) → take n (numbers_in m bs) ≡ numbers_in (min n m) bs
take-numbers_in zero m bs =
    let e : min zero m ≡ 0 = omega arith in
    sym (ap (λ k. numbers_in k bs) e ∙ numbers_none bs)
take-numbers_in (suc n) zero bs =
    let e : min (suc n) zero ≡ 0 = omega arith in
    ap (take (suc n)) (numbers_none bs) ∙ sym (ap (λ k. numbers_in k bs) e ∙ numbers_none bs)
take-numbers_in (suc n) (suc m) bs =
    let e : min (suc n) (suc m) ≡ suc (min n m) = omega arith in
    ap (take (suc n)) (numbers_more m bs) ∙ ap (λ t. number_at bs 0 ∷ t) (take-numbers_in n m (drop 4 bs))
    ∙ sym (ap (λ k. numbers_in k bs) e ∙ numbers_more (min n m) bs)

numbers_push : (n b : ℕ) (bs : List ℕ) → numbers_in (n + 1) (drop b bs) ≡ numbers_in n (drop b bs) ++ number_at bs (b + 4 * n) ∷ []
unfolding numbers_in
numbers_push zero b bs =
    let e : b + 0 ≡ b + 4 * 0 = omega arith in
    ap (λ m. m ∷ []) (number_drop b 0 bs ∙ ap (number_at bs) e)
numbers_push (suc n) b bs =
    let e : suc n + 1 ≡ suc (n + 1) = omega arith in
    let f : b + 4 + 4 * n ≡ b + 4 * suc n = omega arith in
    ap (λ k. numbers_in k (drop b bs)) e
    ∙ ap (λ ys. number_at (drop b bs) 0 ∷ numbers_in (n + 1) ys) (drop-drop 4 b bs)
    ∙ ap (λ t. number_at (drop b bs) 0 ∷ t) (numbers_push n (b + 4) bs)
    ∙ (λ i. number_at (drop b bs) 0 ∷ (numbers_in n (sym (drop-drop 4 b bs) i) ++ number_at bs (f i) ∷ []))

-- one number more, at the end
pub numbers_end : (n : ℕ) (bs : List ℕ) → numbers_in (n + 1) bs ≡ numbers_in n bs ++ number_at bs (4 * n) ∷ []
numbers_end n bs =
    let z : 0 + 4 * n ≡ 4 * n = omega arith in
    numbers_push n 0 bs ∙ ap (λ k. numbers_in n bs ++ number_at bs k ∷ []) z

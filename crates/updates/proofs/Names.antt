-- Names that are read one after the other.
use Rattle.std.proofs.Common.{◌≡◌, ℕ, zero, suc, ◌+◌, ◌*◌, ◌<◌, List, [], ◌∷◌, ◌++◌, length, get_or, take, drop, set, sym, refl, ap, ◌∙◌, arith}
use Rattle.std.proofs.lemmas.List.{get_or-drop, take_more_set, take_all}
use Rattle.plan.specs.declared.name.LegName.{LegName}
use Rattle.updates.specs.Still.{names_in}

-- the name at a place of the pairs
abbrev name_at : List ℕ → ℕ → ℕ → LegName
name_at xs a b = record { run = get_or xs a 0; number = get_or xs b 0 }

names_push : (n : ℕ) (xs : List ℕ) → names_in (n + 1) xs ≡ names_in n xs ++ name_at xs (2 * n) (2 * n + 1) ∷ []
unfolding names_in
names_push zero xs =
    let a : 0 ≡ 2 * 0 = omega arith in
    let b : 1 ≡ 2 * 0 + 1 = omega arith in
    λ j. name_at xs (a j) (b j) ∷ []
names_push (suc n) xs =
    let e : suc n + 1 ≡ suc (n + 1) = omega arith in
    let a : 2 + 2 * n ≡ 2 * suc n = omega arith in
    let b : 2 + (2 * n + 1) ≡ 2 * suc n + 1 = omega arith in
    let run : get_or (drop 2 xs) (2 * n) 0 ≡ get_or xs (2 * suc n) 0 = get_or-drop 2 xs (2 * n) 0 ∙ ap (λ k. get_or xs k 0) a in
    let number : get_or (drop 2 xs) (2 * n + 1) 0 ≡ get_or xs (2 * suc n + 1) 0 =
    get_or-drop 2 xs (2 * n + 1) 0 ∙ ap (λ k. get_or xs k 0) b in
    ap (λ k. names_in k xs) e
    ∙ ap (λ t. name_at xs 0 1 ∷ t)
    (names_push n (drop 2 xs) ∙ (λ j. names_in n (drop 2 xs) ++ record { run = run j; number = number j } ∷ []))

pub names_none : (names : List LegName) (xs : List ℕ) → take 0 names ≡ names_in 0 xs
unfolding names_in
names_none names xs = refl

pub names_more : (names : List LegName) (xs : List ℕ) (i : ℕ) → i < length names → take i names ≡ names_in i xs →
    take (i + 1) (set names i (name_at xs (2 * i) (2 * i + 1))) ≡ names_in (i + 1) xs
names_more names xs i h so_far =
    take_more_set names i (name_at xs (2 * i) (2 * i + 1)) h ∙ ap (λ t. t ++ name_at xs (2 * i) (2 * i + 1) ∷ []) so_far
    ∙ sym (names_push i xs)

pub names_all : (names : List LegName) (xs : List ℕ) (i n : ℕ) → i ≡ n → length names ≡ n →
    take i names ≡ names_in i xs → names ≡ names_in n xs
names_all names xs i n all long so_far = sym (take_all i names (omega arith)) ∙ so_far ∙ ap (λ k. names_in k xs) all

-- The names of legs in a file, one by one.
use Rattle.std.proofs.Common.{◌≡◌, ℕ, zero, suc, ◌+◌, ◌*◌, ◌/◌, ◌<◌, ◌≤◌, List, [], ◌∷◌, ◌++◌, map, length, get_or, take, drop, refl, sym, ap, ◌∙◌, arith, length-append}
use Rattle.std.proofs.Math.Seq.{take-append_seam, drop-append_seam}
use Rattle.std.proofs.lemmas.List.{drop-drop, drop-take, take-take, get_or-take}
use Rattle.files.specs.Numbers.{number_at}
use Rattle.files.proofs.Decoding.{number_drop}
use Rattle.plan.specs.declared.name.LegName.{LegName}
use Rattle.inspect.specs.Told.{names_in}

abbrev pub name_in : List ℕ → LegName
name_in bs = record { run = number_at bs 0; number = number_at bs 4 }

-- the first n pieces of eight bytes
pub pieces : ℕ → List ℕ → List (List ℕ)
pieces zero bs = []
pieces (suc n) bs = take 8 bs ∷ pieces n (drop 8 bs)

-- as many as there are: of fewer bytes none, and behind one piece the others
pub no_piece : (bs : List ℕ) → length bs < 8 → length (pieces (length bs / 8) bs) ≡ 0
unfolding pieces
no_piece bs h = let few : length bs / 8 ≡ 0 = omega arith in ap (λ n. length (pieces n bs)) few

pub next_piece : (bs x rest : List ℕ) → bs ≡ x ++ rest → length x ≡ 8 →
    pieces (length bs / 8) bs ≡ x ∷ pieces (length rest / 8) rest
unfolding pieces
next_piece bs x rest e eight =
    let long : length bs ≡ 8 + length rest = ap length e ∙ length-append x rest ∙ ap (λ n. n + length rest) eight in
    let count : length bs / 8 ≡ suc (length rest / 8) = omega arith in
    let first : take 8 bs ≡ x = ap (take 8) e ∙ ap (λ n. take n (x ++ rest)) (sym eight) ∙ take-append_seam x rest in
    let behind : drop 8 bs ≡ rest = ap (drop 8) e ∙ ap (λ n. drop n (x ++ rest)) (sym eight) ∙ drop-append_seam x rest in
    ap (λ n. pieces n bs) count ∙ (λ i. first i ∷ pieces (length rest / 8) (behind i))

-- a name is read from the eight bytes that hold it
number_in_piece : (bs : List ℕ) (at : ℕ) → at + 4 ≤ 8 → number_at (take 8 bs) at ≡ number_at bs at
number_in_piece bs at h =
    let read : (k : ℕ) → k < 8 → get_or (take 8 bs) k 0 ≡ get_or bs k 0 = λ k l. get_or-take 8 bs k 0 l in
    λ i.
    read at (omega arith) i + read (at + 1) (omega arith) i * 256 + read (at + 2) (omega arith) i * 65536
    + read (at + 3) (omega arith) i * 16777216

name_in_piece : (bs : List ℕ) → name_in (take 8 bs) ≡ name_in bs
name_in_piece bs = λ i. record { run = number_in_piece bs 0 (omega arith) i; number = number_in_piece bs 4 (omega arith) i }

-- the names in the first n pieces are the names that the bytes write down
pub names_pieces : (n : ℕ) (bs : List ℕ) → map name_in (pieces n (take (8 * n) bs)) ≡ names_in n bs
unfolding names_in pieces
names_pieces zero bs = refl
names_pieces (suc n) bs =
    let more : 8 * suc n ≡ 8 + 8 * n = omega arith in
    let first : take 8 (take (8 * suc n) bs) ≡ take 8 bs = take-take 8 (8 * suc n) bs (omega arith) in
    let behind : drop 8 (take (8 * suc n) bs) ≡ take (8 * n) (drop 8 bs) = ap (λ k. drop 8 (take k bs)) more ∙ drop-take 8 (8 * n) bs in
    (λ i. name_in (first i) ∷ map name_in (pieces n (behind i)))
    ∙ (λ i. name_in_piece bs i ∷ names_pieces n (drop 8 bs) i)

-- ---- a name more, behind those that were read
pub names_none : (bs : List ℕ) → names_in 0 bs ≡ []
unfolding names_in
names_none bs = refl

names_push : (n b : ℕ) (bs : List ℕ) → names_in (n + 1) (drop b bs) ≡ names_in n (drop b bs) ++ name_in (drop (b + 8 * n) bs) ∷ []
unfolding names_in
names_push zero b bs = let e : b ≡ b + 8 * 0 = omega arith in ap (λ k. name_in (drop k bs) ∷ []) e
names_push (suc n) b bs =
    let e : suc n + 1 ≡ suc (n + 1) = omega arith in
    let f : b + 8 + 8 * n ≡ b + 8 * suc n = omega arith in
    ap (λ k. names_in k (drop b bs)) e
    ∙ ap (λ ys. name_in (drop b bs) ∷ names_in (n + 1) ys) (drop-drop 8 b bs)
    ∙ ap (λ t. name_in (drop b bs) ∷ t) (names_push n (b + 8) bs)
    ∙ (λ i. name_in (drop b bs) ∷ (names_in n (sym (drop-drop 8 b bs) i) ++ name_in (drop (f i) bs) ∷ []))

-- by its two numbers
pub names_more : (n : ℕ) (bs : List ℕ) →
    names_in (n + 1) bs ≡ names_in n bs ++ record { run = number_at bs (8 * n); number = number_at bs (8 * n + 4) } ∷ []
names_more n bs =
    let z : 0 + 8 * n ≡ 8 * n = omega arith in
    let e : 8 * n + 0 ≡ 8 * n = omega arith in
    names_push n 0 bs ∙ ap (λ k. names_in n bs ++ name_in (drop k bs) ∷ []) z
    ∙ (λ i. names_in n bs ++ record { run = (number_drop (8 * n) 0 bs ∙ ap (number_at bs) e) i; number = number_drop (8 * n) 4 bs i } ∷ [])

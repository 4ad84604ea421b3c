-- The requests of a file, one by one.
use Rattle.std.proofs.Common.{◌≡◌, ℕ, ◌+◌, ◌*◌, ◌/◌, ◌<◌, min, List, [], ◌∷◌, ◌++◌, length, get_or, drop, Ok, sym, refl, ap, ◌∙◌, subst, arith}
use Rattle.files.specs.Numbers.{numbers_in}
use Rattle.serving.specs.declared.request.Request.{Request}
use Rattle.office.specs.declared.kind.Kind.{Kind}
use Rattle.office.specs.Kinds.{kind_of, size_of}
use Rattle.office.specs.Requests.{row, Made, Cut, behind, Written, no_requests, and_request}

-- ---- rows of a length

pub two : (xs : List ℕ) → length xs ≡ 2 → get_or xs 0 0 ∷ get_or xs 1 0 ∷ [] ≡ xs
two [] e = absurd (omega arith)
two (a ∷ []) e = absurd (omega arith)
two (a ∷ b ∷ []) e = refl
two (a ∷ b ∷ c ∷ xs) e = absurd (omega arith)

pub three : (xs : List ℕ) → length xs ≡ 3 → get_or xs 0 0 ∷ get_or xs 1 0 ∷ get_or xs 2 0 ∷ [] ≡ xs
three [] e = absurd (omega arith)
three (a ∷ xs) e = let left : length xs ≡ 2 = omega arith in ap (λ (ys : List ℕ). a ∷ ys) (two xs left)

pub six : (xs : List ℕ) → length xs ≡ 6 →
    get_or xs 0 0 ∷ get_or xs 1 0 ∷ get_or xs 2 0 ∷ get_or xs 3 0 ∷ get_or xs 4 0 ∷ get_or xs 5 0 ∷ [] ≡ xs
six [] e = absurd (omega arith)
six (a ∷ []) e = absurd (omega arith)
six (a ∷ b ∷ []) e = absurd (omega arith)
six (a ∷ b ∷ c ∷ xs) e = let left : length xs ≡ 3 = omega arith in ap (λ (ys : List ℕ). a ∷ b ∷ c ∷ ys) (three xs left)

-- ---- the numbers behind a kind

-- what is read of the bytes behind a kind is the request's row
row_is : (kind : Kind) (bs back ns : List ℕ) (at size : ℕ) → back ≡ drop (at + 1) bs → size ≡ size_of kind back →
    ns ≡ numbers_in (min size (length back / 4)) back → ns ≡ row kind (drop (at + 1) bs)
row_is kind bs back ns at size is_back is_size is_ns =
    is_ns ∙ ap (λ k. numbers_in (min k (length back / 4)) back) is_size ∙ ap (row kind) is_back

pub cut_at : (kind : Kind) (bs back ns : List ℕ) (at size : ℕ) → back ≡ drop (at + 1) bs → size ≡ size_of kind back →
    ns ≡ numbers_in (min size (length back / 4)) back → Cut kind ns → Cut kind (row kind (drop (at + 1) bs))
cut_at kind bs back ns at size is_back is_size is_ns = subst (Cut kind) (row_is kind bs back ns at size is_back is_size is_ns)

-- ---- requests

pub written_none : (bs : List ℕ) (start : ℕ) (rs : List Request) → rs ≡ [] → Written bs start rs start
written_none bs start rs e = subst (λ (xs : List Request). Written bs start xs start) (sym e) no_requests

-- one request more
pub written_more : (bs back ns : List ℕ) (start at size step : ℕ) (kind : Kind) (rs after : List Request) (r : Request) →
    at < length bs → kind_of (get_or bs at 0) ≡ Ok kind → back ≡ drop (at + 1) bs → size ≡ size_of kind back →
    ns ≡ numbers_in (min size (length back / 4)) back → Made kind ns r → step ≡ min (length back) (4 * size) → after ≡ rs ++ r ∷ [] →
    Written bs start rs at → Written bs start after (at + (1 + step))
written_more bs back ns start at size step kind rs after r h byte is_back is_size is_ns made is_step put so =
    let its_row : Made kind (row kind (drop (at + 1) bs)) r =
    subst (λ (xs : List ℕ). Made kind xs r) (row_is kind bs back ns at size is_back is_size is_ns) made in
    let next : at + (1 + step) ≡ behind kind bs at =
    ap (λ k. at + (1 + k)) (is_step ∙ ap (λ k. min (length back) (4 * k)) is_size
    ∙ ap (λ (xs : List ℕ). min (length xs) (4 * size_of kind xs)) is_back) in
    subst (λ (xs : List Request). Written bs start xs (at + (1 + step))) (sym put)
    (subst (λ k. Written bs start (rs ++ r ∷ []) k) (sym next) (and_request so (record { within = h; byte = byte; made = its_row })))

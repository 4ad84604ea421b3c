-- The steps of a loop that looks for the first of something.
use Rattle.std.proofs.Common.{◌≡◌, ℕ, zero, suc, ◌+◌, ◌<◌, Bool, true, false, cond, ◌&&◌, [], ◌∷◌, map, is_ok, Ok, Err, Result, sym, refl, ap, ◌∙◌, inl, inr, arith}
use Rattle.std.proofs.lemmas.Bool.{cases_eq, and_parts, and_from}
use Rattle.std.proofs.Math.Bool.{and-true}
use Rattle.std.specs.List.{list_all, range_with_len}
use Rattle.std.proofs.lemmas.List.Folds.{list_all-append, list_all-map}
use Rattle.std.proofs.lemmas.List.FromFn.{map-range_with_len_more}
use Rattle.plan.specs.declared.refusal.Refusal.{Refusal}
use Rattle.plan.specs.Check.{all_below, first_not, then}

-- ---- a test of every number below n
pub all_below_all : (f : ℕ → Bool) (n : ℕ) → all_below f n ≡ true → (k : ℕ) → k < n → f k ≡ true
unfolding all_below
all_below_all f zero o k h = absurd (omega arith)
all_below_all f (suc n) o k h =
    let both = and_parts (all_below f n) (f n) o in
    elim (cases_eq k n) [
      | inl e ↦ ap f e ∙ both.1
      | inr d ↦ let l : k < n = omega arith in all_below_all f n both.0 k l
    ]

pub all_below_from : (f : ℕ → Bool) (n : ℕ) → ((k : ℕ) → k < n → f k ≡ true) → all_below f n ≡ true
unfolding all_below
all_below_from f zero h = refl
all_below_from f (suc n) h = and_from (all_below f n) (f n) (all_below_from f n (λ k l. h k (omega arith))) (h n (omega arith))

-- as `all` finds it over a range
all_below_map : (f : ℕ → Bool) (n : ℕ) → list_all (λ b. b) (map f (range_with_len 0 n)) ≡ all_below f n
unfolding all_below
all_below_map f zero = refl
all_below_map f (suc n) =
    let e : suc n ≡ n + 1 = omega arith in
    ap (λ k. list_all (λ b. b) (map f (range_with_len 0 k))) e
    ∙ ap (list_all (λ b. b)) (map-range_with_len_more f 0 n n (omega arith))
    ∙ list_all-append (λ b. b) (map f (range_with_len 0 n)) (f n ∷ [])
    ∙ (λ i. all_below_map f n i && and-true (f n) i)

pub all_below_range : (f : ℕ → Bool) (n : ℕ) → list_all f (range_with_len 0 n) ≡ all_below f n
all_below_range f n = sym (list_all-map (λ b. b) f (range_with_len 0 n)) ∙ all_below_map f n

-- ---- the first number below n that fails

pub first_not_hit : (f : ℕ → Bool) (e : ℕ → Refusal) (i n : ℕ) → i < n → first_not f e i ≡ Ok tt → f i ≡ false → first_not f e n ≡ Err (e i)
unfolding first_not
first_not_hit f e i zero h p q = absurd (omega arith)
first_not_hit f e i (suc n) h p q = elim (cases_eq i n) [
  | inl d ↦
      let p1 : first_not f e n ≡ Ok tt = ap (first_not f e) (sym d) ∙ p in
      let q1 : f n ≡ false = ap f (sym d) ∙ q in
      rw (p1, q1) (ap (λ k. Err (e k)) (sym d))
  | inr d ↦ let k : i < n = omega arith in rw (first_not_hit f e i n k p q)
]

-- nothing fails exactly if the test holds of all
then_cond : (r : Result Unit Refusal) (b : Bool) (x : Refusal) → is_ok {T = Unit {0}} {E = Refusal} (then r (λ _. cond b (Ok tt) (Err x))) ≡ is_ok r && b
then_cond (Ok u) true x = refl
then_cond (Ok u) false x = refl
then_cond (Err e) b x = refl

pub first_not_ok : (f : ℕ → Bool) (e : ℕ → Refusal) (n : ℕ) → is_ok (first_not f e n) ≡ all_below f n
unfolding first_not all_below
first_not_ok f e zero = refl
first_not_ok f e (suc n) = then_cond (first_not f e n) (f n) (e n) ∙ ap (λ b. b && f n) (first_not_ok f e n)

pub first_not_all : (f : ℕ → Bool) (e : ℕ → Refusal) (n : ℕ) → all_below f n ≡ true → first_not f e n ≡ Ok tt
unfolding first_not all_below
first_not_all f e zero h = refl
first_not_all f e (suc n) h =
    let both = and_parts (all_below f n) (f n) h in
    let p = first_not_all f e n both.0 in
    let q = both.1 in
    rw (p, q)

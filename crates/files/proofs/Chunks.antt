-- What chunks of one size give, where each is read.
use Rattle.std.proofs.Common.{◌≡◌, ℕ, zero, suc, ◌+◌, ◌*◌, ◌<◌, ◌≤◌, List, [], ◌∷◌, ◌++◌, length, drop, Bor, sym, ap, ◌∙◌, subst, arith, length-append}
use lib.Seq.{drop-append_seam}
use Rattle.std.specs.Iterator.{AlwaysYields}
use Rattle.std.specs.Slice.Iter.{chunks_exact_rest, chunks_exact_size, chunks_exact_steps}
use Rattle.std.specs.declared.slice.ChunksExact.{ChunksExact}
use Rattle.std.proofs.lemmas.Iterator.{YieldsList}

-- read reads the chunk at the front of a list, and all reads so many of them, one after the other
module _ {B : Type 0} (size : ℕ) (read : List ℕ → B) (all : ℕ → List ℕ → List B)
    (none : (xs : List ℕ) → all 0 xs ≡ []) (more : (n : ℕ) (xs : List ℕ) → all (suc n) xs ≡ read xs ∷ all n (drop size xs))
    (front : (xs ys : List ℕ) → length xs ≡ size → read (xs ++ ys) ≡ read xs) where
  abbrev pub view : Bor (List ℕ) → B
  view x = read x.now

  abbrev Given : ChunksExact ℕ → List B → Type 0
  Given s ys = AlwaysYields chunks_exact_steps view s ys

  gives : (n : ℕ) (s : ChunksExact ℕ) → chunks_exact_size s ≡ size → size * n ≤ length (chunks_exact_rest s) →
      length (chunks_exact_rest s) < size * n + size → Given s (all n (chunks_exact_rest s))
  gives zero s is low high =
      subst (Given s) (sym (none (chunks_exact_rest s)))
      (λ x j p. omega (arith, is, p.1.1, ap length p.1.0, length-append x.now (chunks_exact_rest j)))
  gives (suc n) s is low high =
      subst (Given s) (sym (more n (chunks_exact_rest s))) (
        (λ j p. omega (arith, is, p.1.0)),
        λ x j p.
            let long : length x.now ≡ size = p.1.1 ∙ is in
            let then : chunks_exact_rest j ≡ drop size (chunks_exact_rest s) =
            sym (ap (λ k. drop k (chunks_exact_rest s)) (sym long) ∙ ap (drop (length x.now)) p.1.0 ∙ drop-append_seam x.now (chunks_exact_rest j)) in
            let both = ap length p.1.0 ∙ length-append x.now (chunks_exact_rest j) in (
              sym (ap read p.1.0 ∙ front x.now (chunks_exact_rest j) long),
              subst (λ (l : List ℕ). Given j (all n l)) then (gives n j (p.0 ∙ is) (omega (arith, both, long)) (omega (arith, both, long))),
            ),
      )

  -- all the chunks of a list that has so many
  pub YieldsList-from_chunks : {s : ChunksExact ℕ} (n : ℕ) (xs : List ℕ) → chunks_exact_size s ≡ size → chunks_exact_rest s ≡ xs →
      size * n ≤ length xs → length xs < size * n + size → YieldsList chunks_exact_steps view s (all n xs)
  YieldsList-from_chunks {s} n xs is rest low high = record {
    runs = subst (λ (l : List ℕ). Given s (all n l)) rest (gives n s is (omega (arith, low, ap length rest)) (omega (arith, high, ap length rest)));
  }

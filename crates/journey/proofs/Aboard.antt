-- Being aboard, over any free and paid steps: with more boats, by other steps, along a chain of legs and back to one.
use Rattle.std.proofs.Common.{◌≡◌, ℕ, suc, ◌+◌, ◌<◌, ◌≤◌, List, [], ◌∷◌, ◌++◌, sym, subst, arith}
use Rattle.plan.specs.declared.leg.Leg.{Leg}
use Rattle.journey.specs.Journeys.{last}
use Rattle.journey.specs.Aboard.{AboardBy}
use Rattle.journey.specs.Aboard.AboardBy.{start, stay, board}
use Rattle.journey.proofs.Chains.{last_none, last_snoc}

-- the legs behind a first one, each by a free step or a paid one, and how many are paid
pub data Along (Free Paid : Leg → Leg → Type 0) (In : Leg → Type 0) : Leg → List Leg → ℕ → Type 0 where
  along_end : {a : Leg} → Along Free Paid In a [] 0
  along_free : {a b : Leg} {bs : List Leg} {n : ℕ} → Free a b → In b → Along Free Paid In b bs n →
      Along Free Paid In a (b ∷ bs) n
  along_paid : {a b : Leg} {bs : List Leg} {n : ℕ} → Paid a b → In b → Along Free Paid In b bs n →
      Along Free Paid In a (b ∷ bs) (suc n)

-- who is aboard of a leg with at most k boats got there from a seed along some legs
pub record Seeded (Seed : ℕ → Leg → Type 0) (Free Paid : Leg → Leg → Type 0) (In : Leg → Type 0) (k : ℕ) (b : Leg) : Type 0 where
  pub first : Leg
  pub rest : List Leg
  pub at_first : ℕ
  pub paid : ℕ
  pub begins_with : Seed at_first first
  pub usable : In first
  pub steps : Along Free Paid In first rest paid
  pub is_last : last first rest ≡ b
  pub few : paid + at_first ≤ k

module _ {Free Paid : Leg → Leg → Type 0} {In : Leg → Type 0} where
  -- a chain one leg longer
  pub along_snoc_free : {a c : Leg} {bs : List Leg} {n : ℕ} →
      Along Free Paid In a bs n → Free (last a bs) c → In c → Along Free Paid In a (bs ++ c ∷ []) n
  unfolding last
  along_snoc_free along_end f i = along_free f i along_end
  along_snoc_free (along_free g j l) f i = along_free g j (along_snoc_free l f i)
  along_snoc_free (along_paid g j l) f i = along_paid g j (along_snoc_free l f i)

  pub along_snoc_paid : {a c : Leg} {bs : List Leg} {n : ℕ} →
      Along Free Paid In a bs n → Paid (last a bs) c → In c → Along Free Paid In a (bs ++ c ∷ []) (suc n)
  unfolding last
  along_snoc_paid along_end e i = along_paid e i along_end
  along_snoc_paid (along_free g j l) e i = along_free g j (along_snoc_paid l e i)
  along_snoc_paid (along_paid g j l) e i = along_paid g j (along_snoc_paid l e i)

module _ {Seed : ℕ → Leg → Type 0} {Free Paid : Leg → Leg → Type 0} {In : Leg → Type 0} where
  -- every leg that one is aboard of is one that can be used
  pub aboard_in : {k : ℕ} {b : Leg} → AboardBy Seed Free Paid In k b → In b
  aboard_in (start s i) = i
  aboard_in (stay x f i) = i
  aboard_in (board x h e i) = i

  -- a boat more does no harm
  pub aboard_more : ((j k : ℕ) (b : Leg) → j ≤ k → Seed j b → Seed k b) →
      {j k : ℕ} {b : Leg} → j ≤ k → AboardBy Seed Free Paid In j b → AboardBy Seed Free Paid In k b
  aboard_more m {j} {k} {b} h (start s i) = start (m j k b h s) i
  aboard_more m h (stay x f i) = stay (aboard_more m h x) f i
  aboard_more m h (board x l e i) = board x (omega arith) e i

  -- where every seed takes a boat, nobody is aboard without one
  pub aboard_some : ((k : ℕ) (b : Leg) → Seed k b → 1 ≤ k) → {k : ℕ} {b : Leg} → AboardBy Seed Free Paid In k b → 1 ≤ k
  aboard_some m {k} {b} (start s i) = m k b s
  aboard_some m (stay x f i) = aboard_some m x
  aboard_some m (board x l e i) = omega arith

  -- What holds of the seeds and goes over from leg to leg holds of every leg that one is aboard of: how a table of
  -- levels that is closed under the steps is shown to leave nobody out.
  pub aboard_holds : (P : ℕ → Leg → Type 0) →
      ((k : ℕ) (b : Leg) → Seed k b → In b → P k b) →
      ((k : ℕ) (a b : Leg) → In a → P k a → Free a b → In b → P k b) →
      ((j k : ℕ) (a b : Leg) → In a → P j a → j < k → Paid a b → In b → P k b) →
      {k : ℕ} {b : Leg} → AboardBy Seed Free Paid In k b → P k b
  aboard_holds P s f g {k} {b} (start x i) = s k b x i
  aboard_holds P s f g {k} {b} (stay {a = a} x e i) = f k a b (aboard_in x) (aboard_holds P s f g x) e i
  aboard_holds P s f g {k} {b} (board {j = j} {a = a} x l e i) = g j k a b (aboard_in x) (aboard_holds P s f g x) l e i

  -- along a chain the boats are those at its first leg and the paid steps
  pub aboard_along : {k n : ℕ} {a : Leg} {bs : List Leg} (m : ℕ) → n + k ≡ m →
      AboardBy Seed Free Paid In k a → Along Free Paid In a bs n → AboardBy Seed Free Paid In m (last a bs)
  unfolding last
  aboard_along {k} {n} {a} m e x along_end =
      let same : k ≡ m = omega arith in
      subst (λ (i : ℕ). AboardBy Seed Free Paid In i a) same x
  aboard_along m e x (along_free f i l) = aboard_along m e (stay x f i) l
  aboard_along {k} m e x (along_paid f i l) = aboard_along {k = suc k} m (omega arith) (board x (omega arith) f i) l

  -- one leg more behind the chain from a seed
  seeded_snoc : {j k : ℕ} {a b : Leg} (y : Seeded Seed Free Paid In j a) (n : ℕ) →
      Along Free Paid In y.first (y.rest ++ b ∷ []) n → n + y.at_first ≤ k → Seeded Seed Free Paid In k b
  seeded_snoc {b = b} y n l h = record {
    first = y.first;
    rest = y.rest ++ b ∷ [];
    at_first = y.at_first;
    paid = n;
    begins_with = y.begins_with;
    usable = y.usable;
    steps = l;
    is_last = last_snoc y.first y.rest b;
    few = h;
  }

  -- Back from the last leg to the seed: each step is put behind the chain of the leg before it. A paid step has slack,
  -- so the chain found may take fewer boats.
  pub aboard_seeded : {k : ℕ} {b : Leg} → AboardBy Seed Free Paid In k b → Seeded Seed Free Paid In k b
  aboard_seeded {k} {b} (start s i) = record {
    first = b;
    rest = [];
    at_first = k;
    paid = 0;
    begins_with = s;
    usable = i;
    steps = along_end;
    is_last = last_none b;
    few = omega arith;
  }
  aboard_seeded {b = b} (stay x f i) =
      let y = aboard_seeded x in
      let step = subst (λ (l : Leg). Free l b) (sym y.is_last) f in
      seeded_snoc y y.paid (along_snoc_free y.steps step i) y.few
  aboard_seeded {b = b} (board x h e i) =
      let y = aboard_seeded x in
      let step = subst (λ (l : Leg). Paid l b) (sym y.is_last) e in
      seeded_snoc y (suc y.paid) (along_snoc_paid y.steps step i) (omega arith)

-- more seeds, more steps and more legs leave everybody aboard
pub aboard_map : {Seed Seed₁ : ℕ → Leg → Type 0} {Free Free₁ Paid Paid₁ : Leg → Leg → Type 0} {In In₁ : Leg → Type 0} →
    ((k : ℕ) (b : Leg) → Seed k b → Seed₁ k b) →
    ((a b : Leg) → Free a b → Free₁ a b) → ((a b : Leg) → Paid a b → Paid₁ a b) →
    ((b : Leg) → In b → In₁ b) →
    {k : ℕ} {b : Leg} → AboardBy Seed Free Paid In k b → AboardBy Seed₁ Free₁ Paid₁ In₁ k b
aboard_map s f g m {k} {b} (start x i) = start (s k b x) (m b i)
aboard_map s f g m {k} {b} (stay {a = a} x e i) = stay (aboard_map s f g m x) (f a b e) (m b i)
aboard_map s f g m {k} {b} (board {a = a} x l e i) = board (aboard_map s f g m x) l (g a b e) (m b i)

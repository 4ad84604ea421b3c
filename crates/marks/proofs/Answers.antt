-- Answers, for any relation that says which marks are reached.
use Rattle.std.proofs.Common.{◌≡◌, ℕ, suc, ◌-◌, ◌<◌, ◌≤◌, Bool, true, false, cond, ◌||◌, leb, ◌⊎◌, List, [], ◌∷◌, ◌++◌, length, sym, refl, ap, ◌∙◌, inl, inr, arith}
use Rattle.std.proofs.lemmas.Bool.{leb-true, cond_both, cases_lt, or_left}
use Rattle.std.proofs.lemmas.Bool.Decides.{nat_tests}
use Rattle.marks.specs.declared.mark.Mark.{Mark}
use Rattle.marks.specs.Marks.{no_worse, covered, Among, among_first, among_later, Falling, falling_none, falling_one}
use Rattle.marks.specs.Answers.{AnswerOf, up_to}
use Rattle.marks.proofs.Marks.{mark_ext, covered_push, among_push, falling_tail, falling_head, falling_cons, falling_push}

-- Uniqueness. Each mark of one answer is covered by the other. So the first marks of the two agree: each has the
-- fewest boats of its list, hence both the same boats, and what covers it can only be the other first mark, hence
-- both the same arrival. The later marks are earlier than the first, so the first covers none of them, and the rests
-- cover each other in turn.

first_boats : (m n : Mark) (ns : List Mark) → Falling (n ∷ ns) → covered m (n ∷ ns) ≡ true → n.boats ≤ m.boats
first_boats m n [] f e = grind (arith, nat_tests)
first_boats m n (k ∷ ks) f e =
    let ih = first_boats m k ks (falling_tail f) in
    let h = falling_head f k among_first in
    grind (arith, nat_tests)

first_covers : (m n : Mark) (ns : List Mark) → Falling (n ∷ ns) → covered m (n ∷ ns) ≡ true →
    m.boats ≤ n.boats → n.arrival ≤ m.arrival
first_covers m n [] f e l = grind (arith, nat_tests)
first_covers m n (k ∷ ks) f e l =
    let ih = first_boats m k ks (falling_tail f) in
    let h = falling_head f k among_first in
    grind (arith, nat_tests)

rest_covers : (m n : Mark) (ns : List Mark) → covered m (n ∷ ns) ≡ true → m.arrival < n.arrival → covered m ns ≡ true
rest_covers m n ns e l = grind (arith, nat_tests)

-- falling lists that cover each other are one
pub falling_same : (ms ns : List Mark) → Falling ms → Falling ns →
    ((m : Mark) → Among m ms → covered m ns ≡ true) → ((n : Mark) → Among n ns → covered n ms ≡ true) → ms ≡ ns
falling_same [] [] f g h k = refl
falling_same [] (n ∷ ns) f g h k = let z = k n among_first in grind arith
falling_same (m ∷ ms) [] f g h k = let z = h m among_first in grind arith
falling_same (m ∷ ms) (n ∷ ns) f g h k =
    let a = first_boats m n ns g (h m among_first) in
    let b = first_boats n m ms f (k n among_first) in
    let c = first_covers m n ns g (h m among_first) b in
    let d = first_covers n m ms f (k n among_first) a in
    let e : m ≡ n = mark_ext m n (omega arith) (omega arith) in
    let on : (x : Mark) → Among x ms → covered x ns ≡ true =
    λ x i. let l = falling_head f x i in rest_covers x n ns (h x (among_later i)) (omega arith) in
    let back : (x : Mark) → Among x ns → covered x ms ≡ true =
    λ x i. let l = falling_head g x i in rest_covers x m ms (k x (among_later i)) (omega arith) in
    let ih = falling_same ms ns (falling_tail f) (falling_tail g) on back in
    cc

pub answers_same : {R : Mark → Type 0} {most : ℕ} {ms ns : List Mark} → AnswerOf R most ms → AnswerOf R most ns → ms ≡ ns
answers_same {ms = ms} {ns = ns} a b =
    falling_same ms ns a.falling b.falling
    (λ m i. b.all m (a.reached m i) (a.few m i))
    (λ n i. a.all n (b.reached n i) (b.few n i))

-- Fewer boats. The marks of at most so many boats fall, since they are some of a falling list in its order; and a
-- mark of at most so many boats is covered by one of no more boats, which is among them.

up_to_head : (n : ℕ) (m k : Mark) (ks : List Mark) (b : Bool) → leb k.boats n ≡ b →
    (Among m (up_to n ks) → Among m ks × (m.boats ≤ n)) →
    Among m (cond b (k ∷ up_to n ks) (up_to n ks)) → Among m (k ∷ ks) × (m.boats ≤ n)
up_to_head n m k ks true e ih among_first = (among_first, leb-true m.boats n e)
up_to_head n m k ks true e ih (among_later a) = (among_later (ih a).0, (ih a).1)
up_to_head n m k ks false e ih a = (among_later (ih a).0, (ih a).1)

pub up_to_among : (n : ℕ) (m : Mark) (ms : List Mark) → Among m (up_to n ms) → Among m ms × (m.boats ≤ n)
up_to_among n m [] a = elim a [ ]
up_to_among n m (k ∷ ks) a = up_to_head n m k ks (leb k.boats n) refl (up_to_among n m ks) a

pub up_to_falling : (n : ℕ) (ms : List Mark) → Falling ms → Falling (up_to n ms)
up_to_falling n [] f = falling_none
up_to_falling n (m ∷ ms) f =
    let ih = up_to_falling n ms (falling_tail f) in
    cond_both (leb m.boats n) (m ∷ up_to n ms) (up_to n ms) Falling
    (λ e. falling_cons m (up_to n ms) (λ k a. falling_head f k (up_to_among n k ms a).0) ih)
    (λ e. ih)

pub up_to_covers : (n : ℕ) (m : Mark) (ms : List Mark) → m.boats ≤ n → covered m ms ≡ true → covered m (up_to n ms) ≡ true
up_to_covers n m [] h e = e
up_to_covers n m (k ∷ ks) h e = let ih = up_to_covers n m ks h in grind (arith, nat_tests)

-- past a mark of more boats there is none of fewer
up_to_none : (n : ℕ) (ms : List Mark) → ((m : Mark) → Among m ms → n < m.boats) → up_to n ms ≡ []
up_to_none n [] h = refl
up_to_none n (m ∷ ms) h =
    let ih = up_to_none n ms (λ x i. h x (among_later i)) in
    let l = h m among_first in
    grind (arith, nat_tests)

-- in a falling list they are the beginning
pub up_to_beginning : (n : ℕ) (ms : List Mark) → Falling ms → (rest : List Mark) × (ms ≡ up_to n ms ++ rest)
up_to_beginning n [] f = ([], refl)
up_to_beginning n (m ∷ ms) f = at (cases_lt n m.boats) (up_to_beginning n ms (falling_tail f))
  where
    at : (n < m.boats) ⊎ (m.boats ≤ n) → (rest : List Mark) × (ms ≡ up_to n ms ++ rest) →
        (rest : List Mark) × (m ∷ ms ≡ up_to n (m ∷ ms) ++ rest)
    at (inl g) ih =
        let z : up_to n (m ∷ ms) ≡ [] = up_to_none n (m ∷ ms) (λ x i. later x i) in
        (m ∷ ms, ap (λ (l : List Mark). l ++ m ∷ ms) (sym z))
      where
        later : (x : Mark) → Among x (m ∷ ms) → n < x.boats
        later x among_first = g
        later x (among_later i) = let h = falling_head f x i in omega arith
    at (inr g) (rest, e) =
        let z : up_to n (m ∷ ms) ≡ m ∷ up_to n ms = grind (arith, nat_tests) in
        (rest, ap (λ (l : List Mark). m ∷ l) e ∙ ap (λ (l : List Mark). l ++ rest) (sym z))

pub answer_fewer : {R : Mark → Type 0} {few most : ℕ} {ms : List Mark} → few ≤ most →
    AnswerOf R most ms → AnswerOf R few (up_to few ms)
answer_fewer {few = few} {ms = ms} h a = record {
  falling = up_to_falling few ms a.falling;
  reached = λ m k. a.reached m (up_to_among few m ms k).0;
  few = λ m k. (up_to_among few m ms k).1;
  all = λ m r l. up_to_covers few m ms l (a.all m r (omega arith));
}

-- Round by round: from the answer for k boats to that for more.

-- nothing is reached
pub answer_empty : {R : Mark → Type 0} {k : ℕ} → ((m : Mark) → R m → m.boats ≤ k → ⊥) → AnswerOf R k []
answer_empty h = record {
  falling = falling_none;
  reached = λ m i. elim i [ ];
  few = λ m i. elim i [ ];
  all = λ m r l. absurd (h m r l);
}

-- one mark is no worse than whatever is reached
pub answer_one : {R : Mark → Type 0} {k : ℕ} (m : Mark) → R m → m.boats ≤ k →
    ((n : Mark) → R n → n.boats ≤ k → no_worse m n ≡ true) → AnswerOf R k (m ∷ [])
answer_one {R} {k} m r l h = record {
  falling = falling_one;
  reached = λ n i. only n i R r;
  few = λ n i. only n i (λ x. x.boats ≤ k) l;
  all = λ n z b. or_left (no_worse m n) false (h n z b);
}
  where
    only : (n : Mark) → Among n (m ∷ []) → (P : Mark → Type 0) → P m → P n
    only n i P p = among_push n m [] P (λ x j. elim j [ ]) p i

-- no mark of more than k boats is new: the answer for k boats is the answer for any more
pub answer_settled : {R : Mark → Type 0} {k n : ℕ} {ms : List Mark} → k ≤ n → AnswerOf R k ms →
    ((m : Mark) → R m → k < m.boats → m.boats ≤ n → covered m ms ≡ true) → AnswerOf R n ms
answer_settled {R} {k} {n} {ms} le a h = record {
  falling = a.falling;
  reached = a.reached;
  few = λ m i. let l = a.few m i in omega arith;
  all = λ m r l. at m r l (cases_lt k m.boats);
}
  where
    at : (m : Mark) → R m → m.boats ≤ n → (k < m.boats) ⊎ (m.boats ≤ k) → covered m ms ≡ true
    at m r l (inl g) = h m r g l
    at m r l (inr g) = a.all m r g

-- one boat more, and no mark more
pub answer_same : {R : Mark → Type 0} {k : ℕ} {ms : List Mark} → AnswerOf R k ms →
    ((m : Mark) → R m → m.boats ≡ suc k → covered m ms ≡ true) → AnswerOf R (suc k) ms
answer_same a h = answer_settled (omega arith) a (λ m r g l. h m r (omega arith))

-- one boat more, and a mark more: reached, earlier than all before it, and the earliest with so many boats
pub answer_more : {R : Mark → Type 0} {k : ℕ} {ms : List Mark} (m : Mark) → AnswerOf R k ms → R m → m.boats ≡ suc k →
    ((n : Mark) → Among n ms → m.arrival < n.arrival) → ((n : Mark) → R n → n.boats ≡ suc k → m.arrival ≤ n.arrival) →
    AnswerOf R (suc k) (ms ++ m ∷ [])
answer_more {R} {k} {ms} m a r e b h = record {
  falling = falling_push m ms a.falling (λ n i. let l = a.few n i in (omega arith, b n i));
  reached = λ n i. among_push n m ms R a.reached r i;
  few = λ n i. among_push n m ms (λ x. x.boats ≤ suc k) (λ x j. let l = a.few x j in omega arith) (omega arith) i;
  all = λ n z l. covered_push n m ms (at n z (cases_lt k n.boats) l);
}
  where
    at : (n : Mark) → R n → (k < n.boats) ⊎ (n.boats ≤ k) → n.boats ≤ suc k → (covered n ms || no_worse m n) ≡ true
    at n z (inl g) l = let y = h n z (omega arith) in grind (arith, nat_tests)
    at n z (inr g) l = or_left (covered n ms) (no_worse m n) (a.all n z g)

-- there are no more marks than counts of boats
falling_short : (ms : List Mark) (least most : ℕ) → Falling ms →
    ((m : Mark) → Among m ms → (least ≤ m.boats) × (m.boats ≤ most)) → length ms ≤ suc most - least
falling_short [] least most f h = omega arith
falling_short (m ∷ ms) least most f h =
    let here = h m among_first in
    let ih =
    falling_short ms (suc m.boats) most (falling_tail f)
    (λ n i. let more = falling_head f n i in let within = h n (among_later i) in (omega arith, within.1)) in
    omega arith

pub answer_short : {R : Mark → Type 0} {most : ℕ} {ms : List Mark} → AnswerOf R most ms → length ms ≤ suc most
answer_short {most = most} {ms = ms} a =
    let h = falling_short ms 0 most a.falling (λ m i. (omega arith, a.few m i)) in
    omega arith

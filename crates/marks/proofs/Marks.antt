-- The order of marks, covered marks and falling lists.
use Rattle.std.proofs.Common.{◌≡◌, ◌<◌, ◌≤◌, true, false, ◌||◌, ltb, List, [], ◌∷◌, ◌++◌, refl, ap, arith, ltb-true}
use Rattle.std.specs.List.{list_any}
use Rattle.std.proofs.lemmas.Bool.{and_parts, or_parts}
use Rattle.std.proofs.lemmas.Bool.Decides.{nat_tests}
use Rattle.marks.specs.declared.mark.Mark.{Mark}
use Rattle.marks.specs.Marks.{no_worse, covered, falls, falls_on, in_order}
use Rattle.marks.specs.Marks.{Among, among_first, among_later, Falling, falling_none, falling_one, falling_more}

-- marks with the same arrival and the same boats are one mark
pub mark_ext : (m n : Mark) → m.arrival ≡ n.arrival → m.boats ≡ n.boats → m ≡ n
mark_ext m n e f = λ i. record { arrival = e i; boats = f i }

pub no_worse_refl : (m : Mark) → no_worse m m ≡ true
no_worse_refl m = grind (arith, nat_tests)

pub no_worse_trans : (m n o : Mark) → no_worse m n ≡ true → no_worse n o ≡ true → no_worse m o ≡ true
no_worse_trans m n o e f = grind (arith, nat_tests)

pub no_worse_by : (m n : Mark) → m.arrival ≤ n.arrival → m.boats ≤ n.boats → no_worse m n ≡ true
no_worse_by m n h k = grind (arith, nat_tests)

pub no_worse_times : (m n : Mark) → no_worse m n ≡ true → m.arrival ≤ n.arrival
no_worse_times m n e = grind (arith, nat_tests)

pub no_worse_boats : (m n : Mark) → no_worse m n ≡ true → m.boats ≤ n.boats
no_worse_boats m n e = grind (arith, nat_tests)

pub no_worse_antisym : (m n : Mark) → no_worse m n ≡ true → no_worse n m ≡ true → m ≡ n
no_worse_antisym m n e f =
    let a = no_worse_times m n e in
    let b = no_worse_times n m f in
    let c = no_worse_boats m n e in
    let d = no_worse_boats n m f in
    mark_ext m n (omega arith) (omega arith)

-- what covers a mark covers each that is worse
pub covered_up : (x n : Mark) (ms : List Mark) → no_worse x n ≡ true → covered x ms ≡ true → covered n ms ≡ true
covered_up x n [] h e = e
covered_up x n (m ∷ ms) h e = let ih = covered_up x n ms h in grind (arith, nat_tests)

-- covered by the list, or by one mark more at its end
pub covered_push : (x m : Mark) (ms : List Mark) → (covered x ms || no_worse m x) ≡ true → covered x (ms ++ m ∷ []) ≡ true
covered_push x m [] e = grind arith
covered_push x m (n ∷ ns) e = let ih = covered_push x m ns in grind arith

-- a mark that no mark of the list is no worse than
pub uncovered : (m : Mark) (ms : List Mark) → covered m ms ≡ false → (n : Mark) → Among n ms → no_worse n m ≡ false
uncovered m [] e n i = elim i [ ]
uncovered m (x ∷ ms) e n among_first = (or_parts (no_worse n m) (covered m ms) e).0
uncovered m (x ∷ ms) e n (among_later i) = uncovered m ms (or_parts (no_worse x m) (covered m ms) e).1 n i

-- what holds of each mark of the list, and of one more, holds of each of the longer list
pub among_push : (n m : Mark) (ms : List Mark) (P : Mark → Type 0) →
    ((x : Mark) → Among x ms → P x) → P m → Among n (ms ++ m ∷ []) → P n
among_push n m [] P h z among_first = z
among_push n m [] P h z (among_later i) = elim i [ ]
among_push n m (x ∷ ms) P h z among_first = h n among_first
among_push n m (x ∷ ms) P h z (among_later i) = among_push n m ms P (λ y j. h y (among_later j)) z i

pub among_end : (m : Mark) (ms : List Mark) → Among m (ms ++ m ∷ [])
among_end m [] = among_first
among_end m (x ∷ ms) = among_later (among_end m ms)

-- before another in a falling list: with fewer boats, and later
abbrev pub Before : Mark → Mark → Type 0
Before m n = (m.boats < n.boats) × (n.arrival < m.arrival)

pub falling_tail : {m : Mark} {ms : List Mark} → Falling (m ∷ ms) → Falling ms
falling_tail falling_one = falling_none
falling_tail (falling_more h k f) = f

-- the first mark of a falling list has the fewest boats and is the latest
pub falling_head : {m : Mark} {ms : List Mark} → Falling (m ∷ ms) → (n : Mark) → Among n ms → Before m n
falling_head falling_one n a = elim a [ ]
falling_head (falling_more h k f) n among_first = (h, k)
falling_head (falling_more h k f) n (among_later a) = let ih = falling_head f n a in (omega arith, omega arith)

pub falling_cons : (m : Mark) (ms : List Mark) → ((n : Mark) → Among n ms → Before m n) → Falling ms → Falling (m ∷ ms)
falling_cons m [] h f = falling_one
falling_cons m (n ∷ ns) h f = falling_more (h n among_first).0 (h n among_first).1 f

-- a mark with more boats than each of a falling list, and earlier than each, goes to its end
pub falling_push : (m : Mark) (ms : List Mark) → Falling ms → ((n : Mark) → Among n ms → Before n m) → Falling (ms ++ m ∷ [])
falling_push m [] f h = falling_one
falling_push m (n ∷ ns) f h =
    falling_cons n (ns ++ m ∷ [])
    (λ x i. among_push x m ns (λ y. Before n y) (falling_head f) (h n among_first) i)
    (falling_push m ns (falling_tail f) (λ x i. h x (among_later i)))

-- and it is the earliest, with the most boats
pub falling_last : (m : Mark) (ms : List Mark) → Falling (ms ++ m ∷ []) → (n : Mark) → Among n ms → Before n m
falling_last m [] f n i = elim i [ ]
falling_last m (x ∷ ms) f n among_first = falling_head f m (among_end m ms)
falling_last m (x ∷ ms) f n (among_later i) = falling_last m ms (falling_tail f) n i

-- the test says so
pub in_order_falling : (ms : List Mark) → in_order ms ≡ true → Falling ms
in_order_falling [] e = falling_none
in_order_falling (m ∷ []) e = falling_one
in_order_falling (m ∷ n ∷ ns) e =
    let a = and_parts (falls m n) (falls_on n ns) e in
    let b = and_parts (ltb m.boats n.boats) (ltb n.arrival m.arrival) a.0 in
    falling_more (ltb-true _ _ b.0) (ltb-true _ _ b.1) (in_order_falling (n ∷ ns) a.1)

falls_by : (m n : Mark) → m.boats < n.boats → n.arrival < m.arrival → falls m n ≡ true
falls_by m n h k = grind (arith, nat_tests)

-- and back
pub falling_in_order : (ms : List Mark) → Falling ms → in_order ms ≡ true
falling_in_order [] f = refl
falling_in_order (m ∷ []) f = refl
falling_in_order (m ∷ n ∷ ns) (falling_more h k f) =
    let e = falls_by m n h k in
    let ih = falling_in_order (n ∷ ns) f in
    grind arith

-- a search of the list for a mark that is no worse
pub covered_any : (m : Mark) (ms : List Mark) → list_any (λ n. no_worse n m) ms ≡ covered m ms
covered_any m [] = refl
covered_any m (n ∷ ns) = ap (λ b. no_worse n m || b) (covered_any m ns)

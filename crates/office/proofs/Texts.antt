-- The lines of the office, one by one.
use Rattle.std.proofs.Common.{◌≡◌, ℕ, zero, suc, ◌+◌, ◌-◌, ◌*◌, ◌/◌, ◌<◌, ◌≤◌, true, List, [], ◌∷◌, ◌++◌, length, get_or, take, drop, sym, refl, ap, ◌∙◌, append_assoc, append-nil, arith, length-take}
use Rattle.std.proofs.Output.{has_written_of_eq, has_written_append}
use Rattle.std.proofs.lemmas.List.{flat_map_more, take_more, take_all, get_or_append_left}
use Rattle.std.specs.Fmt.{IsPlainFormatter, HasWritten}
use Rattle.std.specs.List.{flat_map}
use Rattle.std.specs.declared.fmt.Formatter.{Formatter}
use Rattle.plan.specs.Names.{name_text}
use Rattle.plan.specs.declared.name.LegName.{LegName}
use Rattle.updates.specs.Still.{names_in}
use Rattle.office.specs.Texts.{feed, next_text, names_text, legs_in, itineraries_text}

-- what was written, and what a call that went well then wrote, is the text
pub put_next : {W : Type 0} (took : W → List ℕ → W → Type 0) (e f g : Formatter W) {a b text : List ℕ} →
    a ++ b ≡ text → HasWritten took e a f → (IsPlainFormatter f → true ≡ true → HasWritten took f b g) → HasWritten took e text g
put_next took e f g {a} {b} {text} whole was next =
    has_written_of_eq took e (a ++ b) text g whole (has_written_append took e a f b g was (next was.plain refl))

-- ---- names

-- the name that a pair of numbers tells, whatever stands behind it
abbrev pub first_name : List ℕ → LegName
first_name xs = record { run = get_or xs 0 0; number = get_or xs 1 0 }

pub first_front : (xs ys : List ℕ) → length xs ≡ 2 → first_name (xs ++ ys) ≡ first_name xs
first_front xs ys e =
    let run : get_or (xs ++ ys) 0 0 ≡ get_or xs 0 0 = get_or_append_left xs ys 0 0 (omega arith) in
    let number : get_or (xs ++ ys) 1 0 ≡ get_or xs 1 0 = get_or_append_left xs ys 0 1 (omega arith) in
    λ i. record { run = run i; number = number i }

pub names_none : (xs : List ℕ) → names_in 0 xs ≡ []
unfolding names_in
names_none xs = refl

pub names_more : (n : ℕ) (xs : List ℕ) → names_in (suc n) xs ≡ first_name xs ∷ names_in n (drop 2 xs)
unfolding names_in
names_more n xs = refl

-- the names behind the first
abbrev pub later_names : List ℕ → List LegName
later_names xs = names_in (length (drop 2 xs) / 2) (drop 2 xs)

pub all_names : (xs : List ℕ) → 2 ≤ length xs → names_in (length xs / 2) xs ≡ first_name xs ∷ later_names xs
all_names (a ∷ b ∷ xs) h =
    let e : length (a ∷ b ∷ xs) / 2 ≡ suc (length xs / 2) = omega arith in
    ap (λ k. names_in k (a ∷ b ∷ xs)) e ∙ names_more (length xs / 2) (a ∷ b ∷ xs)
all_names (a ∷ []) h = absurd (omega arith)
all_names [] h = absurd (omega arith)

pub no_names : (xs : List ℕ) → length xs < 2 → names_text (names_in (length xs / 2) xs) ≡ []
no_names xs h =
    let e : length xs / 2 ≡ 0 = omega arith in
    ap (λ k. names_text (names_in k xs)) e ∙ ap names_text (names_none xs)

-- the text of the first name and so many behind it, and of one more
pub text_more : (n : LegName) (ns : List LegName) (k : ℕ) (m : LegName) → k < length ns → m ≡ get_or ns k m →
    names_text (n ∷ take k ns) ++ next_text m ≡ names_text (n ∷ take (k + 1) ns)
text_more n ns k m h is =
    flat_map_more next_text (name_text n) (take k ns) m
    ∙ ap (λ (l : List LegName). name_text n ++ flat_map next_text l)
    (ap (λ (x : LegName). take k ns ++ x ∷ []) is ∙ sym (take_more ns k m h))

pub text_all : (xs : List ℕ) (k : ℕ) → 2 ≤ length xs → length (later_names xs) ≤ k →
    names_text (first_name xs ∷ take k (later_names xs)) ≡ names_text (names_in (length xs / 2) xs)
text_all xs k h all =
    ap (λ (l : List LegName). names_text (first_name xs ∷ l)) (take_all k (later_names xs) all) ∙ ap names_text (sym (all_names xs h))

-- ---- itineraries

itineraries_more : (k : ℕ) (ns : List ℕ) → itineraries_text (suc k) ns
    ≡ names_text (names_in (legs_in ns) (drop 1 ns)) ++ (feed ++ itineraries_text k (drop (1 + 2 * legs_in ns) ns))
unfolding itineraries_text
itineraries_more k ns = refl

itineraries_none : (ns : List ℕ) → itineraries_text 0 ns ≡ []
unfolding itineraries_text
itineraries_none ns = refl

-- the names of so many numbers at the front
names_of_front : (n m : ℕ) (xs : List ℕ) → 2 * n ≤ m → 2 * n ≤ length xs → names_in n (take m xs) ≡ names_in n xs
names_of_front zero m xs h l = names_none (take m xs) ∙ sym (names_none xs)
names_of_front (suc n) (suc (suc m)) (a ∷ b ∷ xs) h l =
    names_more n (take (suc (suc m)) (a ∷ b ∷ xs)) ∙ ap (λ t. first_name (a ∷ b ∷ xs) ∷ t) (names_of_front n m xs (omega arith) (omega arith))
    ∙ sym (names_more n (a ∷ b ∷ xs))
names_of_front (suc n) (suc (suc m)) (a ∷ []) h l = absurd (omega arith)
names_of_front (suc n) (suc (suc m)) [] h l = absurd (omega arith)
names_of_front (suc n) (suc zero) xs h l = absurd (omega arith)
names_of_front (suc n) zero xs h l = absurd (omega arith)

-- what is told, and the lines to come, are all the lines
pub lines_next : (count i : ℕ) (ns pairs rest text whole : List ℕ) → i < count → pairs ≡ take (2 * legs_in ns) (drop 1 ns) →
    rest ≡ drop (1 + 2 * legs_in ns) ns → text ++ itineraries_text (count - i) ns ≡ whole →
    (text ++ (names_text (names_in (length pairs / 2) pairs) ++ feed)) ++ itineraries_text (count - (i + 1)) rest ≡ whole
lines_next count i ns pairs rest text whole h is_pairs is_rest so =
    let left : ℕ = count - (i + 1) in
    let legs : ℕ = legs_in ns in
    let e : count - i ≡ suc left = omega arith in
    let room : 2 * legs ≤ length (drop 1 ns) = omega arith in
    let many : length (take (2 * legs) (drop 1 ns)) / 2 ≡ legs = simp length-take (omega (arith, room)) in
    let told : names_text (names_in (length pairs / 2) pairs) ≡ names_text (names_in legs (drop 1 ns)) =
    ap (λ (l : List ℕ). names_text (names_in (length l / 2) l)) is_pairs
    ∙ ap (λ k. names_text (names_in k (take (2 * legs) (drop 1 ns)))) many
    ∙ ap names_text (names_of_front legs (2 * legs) (drop 1 ns) (omega arith) room) in
    (λ j. (text ++ (told j ++ feed)) ++ itineraries_text left (is_rest j))
    ∙ append_assoc text (names_text (names_in legs (drop 1 ns)) ++ feed) (itineraries_text left (drop (1 + 2 * legs) ns))
    ∙ ap (λ t. text ++ t) (append_assoc (names_text (names_in legs (drop 1 ns))) feed (itineraries_text left (drop (1 + 2 * legs) ns)))
    ∙ ap (λ t. text ++ t) (sym (itineraries_more left ns))
    ∙ (λ j. text ++ itineraries_text (sym e j) ns)
    ∙ so

pub lines_all : (count i : ℕ) (ns text whole : List ℕ) → i ≡ count → text ++ itineraries_text (count - i) ns ≡ whole → text ≡ whole
lines_all count i ns text whole all so =
    let e : count - i ≡ 0 = omega arith in
    sym (append-nil text) ∙ ap (λ t. text ++ t) (sym (itineraries_none ns)) ∙ (λ j. text ++ itineraries_text (sym e j) ns) ∙ so

pub lines_first : (count : ℕ) (ns : List ℕ) → itineraries_text (count - 0) ns ≡ itineraries_text count ns
lines_first count ns =
    let z : count - 0 ≡ count = omega arith in
    ap (λ k. itineraries_text k ns) z

-- ---- responses

-- The keys of a plan's legs in order: the leg that each was made for, and that they lay the legs out.
use Rattle.std.proofs.Common.{◌≡◌, ℕ, ◌+◌, ◌<◌, ◌≤◌, cond, eqb, List, [], ◌∷◌, length, get_or, set, sym, refl, ap, ◌∙◌, inl, inr, arith}
use Rattle.std.specs.List.{swap}
use Rattle.std.proofs.lemmas.Nat.{mod-mul-add}
use Rattle.std.proofs.ByRecursion.{has_get_or, has_shuffled}
use Rattle.std.proofs.lemmas.List.{length-set, get_or_default, get_or-set_same, get_or-set_other}
use Rattle.std.proofs.lemmas.List.Sorted.{IsPermutation-keeps, IsPermutation-sym, length_permutation}
use Rattle.std.proofs.lemmas.Bool.{cases_eq, cases_order, eq-eqb, ne_eqb, cond-true, cond-false}
use Rattle.std.proofs.lemmas.Bool.Decides.{nat_tests}
use Rattle.plan.specs.declared.leg.Leg.{Leg}
use Rattle.plan.specs.Legs.{Plan, no_leg, leg}
use Rattle.plan.specs.Sound.{Sound}
use Rattle.plan.specs.Keys.{name_of, key_of, key_place, leg_keys, Ordered}
use Rattle.plan.proofs.Keys.{length_keys, getD_keys}
use Rattle.rounds.specs.Opened.{place_at, LegsLaid}

-- ---- no two places hold one number, and an exchange of two places keeps that
abbrev Apart : List ℕ → Type 0
Apart xs = (i j : ℕ) → i < length xs → j < length xs → get_or xs i 0 ≡ get_or xs j 0 → i ≡ j

length_exchanged : (l : List ℕ) (a b : ℕ) → length (swap l a b) ≡ length l
length_exchanged [] a b = refl
length_exchanged (x ∷ xs) a b = length-set _ b _ ∙ length-set (x ∷ xs) a _

exchanged_is : (l : List ℕ) (a b : ℕ) → a < length l → b < length l → set (set l a (get_or l b 0)) b (get_or l a 0) ≡ swap l a b
exchanged_is [] a b p q = refl
exchanged_is (x ∷ xs) a b p q =
    let u = get_or_default (x ∷ xs) b 0 x q in
    let v = get_or_default (x ∷ xs) a 0 x p in
    λ i. set (set (x ∷ xs) a (u i)) b (v i)

-- where the number at the place k stood before a and b were exchanged
abbrev other : ℕ → ℕ → ℕ → ℕ
other a b k = cond (eqb k a) b (cond (eqb k b) a k)

module _ (l : List ℕ) (a b : ℕ) (p : a < length l) (q : b < length l) where
  from : (k : ℕ) → get_or (swap l a b) k 0 ≡ get_or l (other a b k) 0
  from k =
      let e : swap l a b ≡ set (set l a (get_or l b 0)) b (get_or l a 0) = sym (exchanged_is l a b p q) in
      let len = length-set l a (get_or l b 0) in
      elim (cases_eq k b) [
        | inl kb ↦
            let r = get_or-set_same (set l a (get_or l b 0)) b (get_or l a 0) 0 (omega arith) in
            elim (cases_eq k a) [
              | inl ka ↦
                  let ab : a ≡ b = omega arith in
                  let x = cond-true (eqb k a) b (cond (eqb k b) a k) (eq-eqb k a ka) in
                  cc
              | inr ka ↦
                  let x = cond-false (eqb k a) b (cond (eqb k b) a k) (ne_eqb k a ka) in
                  let y = cond-true (eqb k b) a k (eq-eqb k b kb) in
                  cc
            ]
        | inr kb ↦
            let r = get_or-set_other (set l a (get_or l b 0)) b k (get_or l a 0) 0 kb in
            let y = cond-false (eqb k b) a k (ne_eqb k b kb) in
            elim (cases_eq k a) [
              | inl ka ↦
                  let t = get_or-set_same l a (get_or l b 0) 0 p in
                  let x = cond-true (eqb k a) b (cond (eqb k b) a k) (eq-eqb k a ka) in
                  cc
              | inr ka ↦
                  let t = get_or-set_other l a k (get_or l b 0) 0 ka in
                  let x = cond-false (eqb k a) b (cond (eqb k b) a k) (ne_eqb k a ka) in
                  cc
            ]
      ]

  -- Each place has its number from one other place, and no two from the same.
  exchange_apart : Apart l → Apart (swap l a b)
  exchange_apart h i j hi hj e =
      let n = length_exchanged l a b in
      let same : other a b i ≡ other a b j =
      h (other a b i) (other a b j) (grind (arith, nat_tests)) (grind (arith, nat_tests)) (sym (from i) ∙ e ∙ from j) in
      grind (arith, nat_tests)

-- ---- the keys in order
module _ (p : Plan) (keys : List ℕ) (few : length p.legs ≤ 65536) (o : Ordered p keys) where
  pub keys_long : length keys ≡ length p.legs
  keys_long = length_permutation _ _ o.same ∙ length_keys 0 p.legs

  -- the keys as they were made, and what their places are
  made : (i : ℕ) → i < length p.legs → get_or (leg_keys 0 p.legs) i 0 ≡ key_of (leg p i) i
  made i h =
      let e : 0 + i ≡ i = omega arith in
      getD_keys 0 p.legs i h ∙ ap (key_of (leg p i)) e

  place : (i : ℕ) → i < length p.legs → key_place (key_of (leg p i) i) ≡ i
  place i h = mod-mul-add (name_of (leg p i)) 65536 i (omega arith)

  -- the key at the place c is that of the leg whose place it tells
  record Told (c : ℕ) : Type 0 where
    within : place_at keys c < length p.legs
    key : get_or keys c 0 ≡ key_of (leg p (place_at keys c)) (place_at keys c)

  told : (c : ℕ) → c < length keys → Told c
  told c h =
      let all = leg_keys 0 p.legs in
      let n = length_keys 0 p.legs in
      let has = has_shuffled keys all (get_or keys c 0) (IsPermutation-sym all keys o.same) (has_get_or keys c 0 h) in
      let i = has.0 in
      let l : i < length p.legs = omega (arith, has.1) in
      let key : get_or keys c 0 ≡ key_of (leg p i) i = sym (has.2 0) ∙ made i l in
      let at : place_at keys c ≡ i = ap key_place key ∙ place i l in
      record { within = omega arith; key = key ∙ ap (λ j. key_of (leg p j) j) (sym at) }

  pub place_within : (c : ℕ) → c < length keys → place_at keys c < length p.legs
  place_within c h = (told c h).within

  -- and each leg's key stands somewhere
  stands : (i : ℕ) → i < length p.legs → (c : ℕ) × (c < length keys) × (place_at keys c ≡ i)
  stands i h =
      let all = leg_keys 0 p.legs in
      let n = length_keys 0 p.legs in
      let has = has_shuffled all keys (get_or all i 0) o.same (has_get_or all i 0 (omega arith)) in
      (has.0, has.1, ap key_place (has.2 0 ∙ made i h) ∙ place i h)

  -- The keys were made apart, since each has its leg's place in it, and putting them in order only exchanged them.
  keys_apart : Apart keys
  keys_apart = IsPermutation-keeps all Apart first (λ l i j a b h. exchange_apart l i j a b h) keys o.same
    where
      all : List ℕ
      all = leg_keys 0 p.legs

      first : Apart (leg_keys 0 p.legs)
      first i j hi hj e =
          let n = length_keys 0 p.legs in
          let a = made i (omega arith) in
          let b = made j (omega arith) in
          omega arith

  -- keys that tell one place are the key of one leg
  once : (c m : ℕ) → c < length keys → m < length keys → place_at keys c ≡ place_at keys m → c ≡ m
  once c m hc hm e =
      keys_apart c m hc hm ((told c hc).key ∙ ap (λ i. key_of (leg p i) i) e ∙ sym (told m hm).key)

  -- The keys rise, so the names in them do not fall; and no two legs of a sound plan have one name.
  module _ (s : Sound p) where
    abbrev named : ℕ → Leg
    named c = leg p (place_at keys c)

    names_rise : (c m : ℕ) → c < m → m < length keys → name_of (named c) < name_of (named m)
    names_rise c m l h =
        let x = told c (omega arith) in
        let y = told m h in
        let up = o.rising c m 0 (omega arith) h in
        let a = s.legs (place_at keys c) x.within in
        let b = s.legs (place_at keys m) y.within in
        elim (cases_order (name_of (named c)) (name_of (named m))) [
          | inl e ↦
              let r : (named c).run ≡ (named m).run = omega (arith, a.number, b.number) in
              let n : (named c).number ≡ (named m).number = omega arith in
              let same = once c m (omega arith) h (s.apart _ _ x.within y.within r n) in
              absurd (omega arith)
          | inr w ↦ elim w [
            | inl lt ↦ lt
            | inr gt ↦ absurd (omega (arith, x.key, y.key, x.within, y.within))
          ]
        ]

    pub legs_laid : (legs : List Leg) → length legs ≡ length p.legs →
        ((c : ℕ) → c < length legs → get_or legs c no_leg ≡ leg p (place_at keys c)) → LegsLaid p keys legs
    legs_laid legs long is =
        let n = keys_long in
        record {
          long = long;
          is = is;
          within = λ c h. place_within c (omega arith);
          all = λ i h. let z = stands i h in (z.0, omega (arith, z.1), z.2);
          once = λ c m hc hm. once c m (omega arith) (omega arith);
          rises = λ c m l h.
              let a = ap (λ (b : Leg). name_of b) (is c (omega arith)) in
              let b = ap (λ (b : Leg). name_of b) (is m h) in
              let z = names_rise c m l (omega arith) in
              omega arith;
        }

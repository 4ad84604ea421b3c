-- The word on an itinerary is true.
use Rattle.std.proofs.Common.{◌≡◌, ℕ, ◌<◌, Bool, true, false, cond, ◌⊎◌, List, length, drop, Decides, sym, refl, ap, ◌∙◌, subst, inl, inr, arith}
use Rattle.std.proofs.lemmas.Bool.Decides.{not_from_Decides}
use Rattle.plan.specs.Legs.{Plan}
use Rattle.plan.specs.declared.name.LegName.{LegName}
use Rattle.journey.specs.Checked.{GoneAlong}
use Rattle.updates.specs.declared.still.Word.{Word}
use Rattle.updates.specs.declared.still.Word.TheVariants.{Still, Gone}
use Rattle.updates.specs.Still.{StillGoes, names_in, Said}

said : {P Q : Type 0} (r : Bool) → (Q → ⊥) → Decides r P → Said (cond r Still Gone) (Q ⊎ P)
said true no_legs d = inr (d.0 refl)
said {P} {Q} false no_legs d = never
  where
    never : Q ⊎ P → ⊥
    never (inl q) = no_legs q
    never (inr x) = not_from_Decides false d refl x

-- with no legs it goes
pub said_of_none : (p : Plan) (s t n : ℕ) (pairs : List ℕ) → n ≡ 0 → StillGoes p s t (names_in n pairs)
unfolding names_in
said_of_none p s t n pairs none = inl (ap (λ k. names_in k pairs) none)

pub said_of_legs : (p : Plan) (s t n : ℕ) (gs pairs : List ℕ) (names : List LegName) (r : Bool) (w : Word) → pairs ≡ drop 3 gs →
    0 < length names → names ≡ names_in n pairs → Decides r (GoneAlong p s t names) → w ≡ cond r Still Gone →
    Said w (StillGoes p s t (names_in n (drop 3 gs)))
said_of_legs p s t n gs pairs names r w rest some read d told =
    subst (λ (v : Word). Said v (StillGoes p s t (names_in n (drop 3 gs)))) (sym told)
    (subst (λ (ns : List LegName). Said (cond r Still Gone) (StillGoes p s t ns)) (read ∙ ap (names_in n) rest)
    (said r (λ none. omega (arith, ap length none)) d))

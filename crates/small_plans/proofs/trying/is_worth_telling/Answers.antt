use Rattle.std.proofs.Common.{◌-◌, ◌<◌, ◌≡◌, rules, List, length, slice_index_or, All, sym, ap, ◌∙◌, subst, inl, inr, arith}
use Rattle.std.proofs.lemmas.Bool.{cases_lt}
use Rattle.std.proofs.lemmas.Option.{get_or_from_slice_get}
use Rattle.small_plans.specs.declared.small.Mark.{Mark}
use Rattle.small_plans.specs.declared.trying.Reached.{Reached}
use Rattle.small_plans.specs.Marks.{Falls}
use Rattle.small_plans.specs.Tried.{mark_of, IsFalling}
use Rattle.small_plans.proofs.trying.is_worth_telling.Goals as goal

-- what falls from the last falls from all before it
all_fall : (xs : List Reached) (m : Mark) → IsFalling xs
    → ((d : Reached) → Falls (mark_of (slice_index_or xs (length xs - 1) d)) m)
    → All (λ r. Falls (mark_of r) m) xs
all_fall xs m falling last k d inside =
    elim (cases_lt k (length xs - 1)) [
      | inl before ↦
          let step = falling k (length xs - 1) d before (omega arith) in
          (omega (arith, step.0, (last d).0), omega (arith, step.1, (last d).1))
      | inr after ↦
          let same : k ≡ length xs - 1 = omega (arith, after) in
          subst (λ i. Falls (mark_of (slice_index_or xs i d)) m) (sym same) (last d)
    ]

pub returns-in-Some : goal.returns-in-Some
returns-in-Some c =
    let told = c.args.told.now in
    let before = c.in-Some.before.now in
    let is_last : (d : Reached) → slice_index_or told (length told - 1) d ≡ before =
    λ d. get_or_from_slice_get told (length told - 1) before d (sym c.in-Some.ensures.value) in
    let inside : length told - 1 < length told = search rules in
    let as_told : (d : Reached) → c.mark.result ≡ mark_of (slice_index_or told (length told - 1) d) =
    λ d. c.mark.ensures ∙ ap mark_of (sym (is_last d)) in (
      λ falls. all_fall told c.args.mark c.requires
          (λ d. subst (λ m. Falls m c.args.mark) (as_told d) (c.falls_to.ensures.0 falls)),
      λ all. c.falls_to.ensures.1
          (subst (λ m. Falls m c.args.mark) (sym (as_told before)) (all (length told - 1) before inside)),
    )

use Rattle.std.proofs.Common.{ℕ, List, sym, refl, ap, ◌∙◌, subst}
use Rattle.plan.specs.Sound.{Few, Usable}
use Rattle.plan.specs.Words.{plan_in}
use Rattle.plan.proofs.Laws.{not_refused, usable_opens}
use Rattle.plan.proofs.ReadBack.{read_written}
use Rattle.plan.proofs.Written.{usable_written}
use Rattle.serving.specs.Kept.{Lays}
use Rattle.serving.proofs.Fronts.{plan_fits}
use Rattle.serving.proofs.office.Office.open.Goals as goal

pub copy_plan-requires : goal.copy_plan-requires
copy_plan-requires c =
    let u : Usable c.args.plan.now = c.in_ok-check.ensures.usable refl in
    record { whole = u.whole; room = plan_fits c.args.plan.now u }

pub of-requires : goal.of-requires
of-requires c =
    let u : Usable c.args.plan.now = c.in_ok-check.ensures.usable refl in
    let kept : Usable c.copy_plan.new.words =
    subst Usable (sym c.copy_plan.ensures) (usable_written (plan_in c.args.plan.now) _ u.few u.sound) in
    record { whole = kept.whole; sound = usable_opens c.copy_plan.new.words kept }

pub fill-requires : goal.fill-requires
fill-requires c =
    let u : Usable c.args.plan.now = c.in_ok-check.ensures.usable refl in
    record {
      few = subst (λ (xs : List ℕ). Few (plan_in xs)) (sym (c.of.ensures ∙ c.copy_plan.ensures))
          (usable_written (plan_in c.args.plan.now) _ u.few u.sound).few;
    }

pub invariant_of-result : goal.invariant_of-result
invariant_of-result c =
    let u : Usable c.args.plan.now = c.in_ok-check.ensures.usable refl in
    let kept : Usable c.copy_plan.new.words =
    subst Usable (sym c.copy_plan.ensures) (usable_written (plan_in c.args.plan.now) _ u.few u.sound) in
    record {
      usable = not_refused c.copy_plan.new.words kept;
      kept = subst (λ (xs : List ℕ). Lays (plan_in xs) c.fill.new.self) c.of.ensures c.fill.ensures;
    }

pub returns : goal.returns
returns c = record {
  usable = not_refused c.args.plan.now (c.in_ok-check.ensures.usable refl);
  plan = ap plan_in c.copy_plan.ensures ∙ read_written (plan_in c.args.plan.now) _;
}

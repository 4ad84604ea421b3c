use Rattle.std.proofs.Common.{◌≡◌, ℕ, List, length, Result, sym, ap, ◌∙◌, subst, rules}
use Rattle.plan.specs.declared.refusal.Refusal.{Refusal}
use Rattle.plan.specs.Words.{plan_in}
use Rattle.plan.proofs.Laws.{usable, usable_opens, not_refused}
use Rattle.updates.specs.Updates.{after}
use Rattle.serving.specs.Kept.{Lays}
use Rattle.serving.specs.Runs.{if_done}
use Rattle.serving.proofs.Updating.{applied_says, applied_plan}
use Rattle.serving.proofs.office.Office.apply.Goals as goal

pub apply_checked-requires : goal.apply_checked-requires
apply_checked-requires c = usable c.args.self.now.words c.args.self.now.usable

pub of-requires : goal.of-requires
of-requires c =
    let u = c.apply_checked.ensures.usable in
    record { whole = u.whole; sound = usable_opens c.apply_checked.new.plan u }

-- refused: the words are as they were
pub invariant_of-self : goal.invariant_of-self
invariant_of-self c =
    let self = c.args.self.now in
    record {
      usable = not_refused c.apply_checked.new.plan c.apply_checked.ensures.usable;
      kept = subst (λ (xs : List ℕ). Lays (plan_in xs) self.index) (sym c.in_err-apply_checked.ensures.memory) self.kept;
    }

pub returns : goal.returns
returns c =
    let self = c.args.self.now in
    let u = usable self.words self.usable in
    let long : length self.words ≡ 6979 = search rules in
    let p = plan_in self.words in
    let done = c.in_ok-apply_checked.ensures in
    let says = applied_says self.words c.args.update u long done in
    record {
      says = says;
      plan = applied_plan self.words c.args.update u long done
          ∙ ap (λ (o : Result Unit Refusal). if_done o (after p c.args.update) p) says;
    }

pub invariant_of-self-2 : goal.invariant_of-self-2
invariant_of-self-2 c = record {
  usable = not_refused c.apply_checked.new.plan c.apply_checked.ensures.usable;
  kept = subst (λ (xs : List ℕ). Lays (plan_in xs) c.fill.new.self) c.of.ensures c.fill.ensures;
}

pub returns-in_err-apply_checked : goal.returns-in_err-apply_checked
returns-in_err-apply_checked c =
    let self = c.args.self.now in
    let u = usable self.words self.usable in
    let long : length self.words ≡ 6979 = search rules in
    let p = plan_in self.words in
    let done = c.in_err-apply_checked.ensures in
    let says = applied_says self.words c.args.update u long done in
    record {
      says = search (rules, says);
      plan = applied_plan self.words c.args.update u long done
          ∙ ap (λ (o : Result Unit Refusal). if_done o (after p c.args.update) p) says;
    }

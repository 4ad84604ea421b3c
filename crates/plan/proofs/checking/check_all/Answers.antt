use Rattle.std.proofs.Common.{is_ok, sym, ap, arith, rules}
use Rattle.plan.specs.Check.{plan_checked}
use Rattle.plan.proofs.Laws.{counted}
use Rattle.plan.proofs.Keys.{keys_same, keys_left}
use Rattle.plan.proofs.checking.check_all.Goals as goal

pub returns-in_err-counts : goal.returns-in_err-counts
unfolding plan_checked
returns-in_err-counts c = record {
  value = search rules;
  keys = keys_same _ _ (sym (ap is_ok c.in_err-counts.ensures));
}

pub of-requires-clause-few : goal.of-requires-clause-few
of-requires-clause-few c = (counted c.args.words.now c.in_ok-counts.counts c.in_ok-counts.ensures).few

pub check_parts-requires : goal.check_parts-requires
check_parts-requires c =
    let n = counted c.args.words.now c.in_ok-counts.counts c.in_ok-counts.ensures in
    search rules

pub returns-in_err-check_parts : goal.returns-in_err-check_parts
unfolding plan_checked
returns-in_err-check_parts c =
    let n = counted c.args.words.now c.in_ok-counts.counts c.in_ok-counts.ensures in
    record {
      value = search rules;
      keys = keys_left c.args.words.now c.args.keys.now _ c.check_parts.new.keys c.in_ok-counts.counts.legs c.of.ensures n.legs
          (sym (ap is_ok c.in_ok-counts.ensures)) (omega arith) c.check_parts.auto.keys c.check_parts.ensures.ordered c.check_parts.ensures.kept;
    }

pub returns : goal.returns
unfolding plan_checked
returns c =
    let n = counted c.args.words.now c.in_ok-counts.counts c.in_ok-counts.ensures in
    record {
      value = search rules;
      keys = keys_left c.args.words.now c.args.keys.now _ c.check_parts.new.keys c.in_ok-counts.counts.legs c.of.ensures n.legs
          (sym (ap is_ok c.in_ok-counts.ensures)) (omega arith) c.check_parts.auto.keys c.check_parts.ensures.ordered c.check_parts.ensures.kept;
    }

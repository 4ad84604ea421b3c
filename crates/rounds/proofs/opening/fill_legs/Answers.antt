use Rattle.std.proofs.Common.{◌≡◌, true, false, set, ap, ◌∙◌, arith, rules}
use Rattle.plan.specs.Legs.{no_leg, leg}
use Rattle.plan.specs.Words.{plan_in}
use Rattle.plan.specs.Check.{sound_words}
use Rattle.plan.proofs.Laws.{sound_plan}
use Rattle.rounds.proofs.Ordering.{keys_long, place_within, legs_laid}
use Rattle.rounds.specs.Layout.{is_joined}
use Rattle.rounds.specs.Opened.{place_at}
use Rattle.rounds.proofs.Laying.{row_more, joins_kept}
use Rattle.rounds.proofs.opening.fill_legs.Goals as goal

pub bounds-keys-c : goal.bounds-keys-c
bounds-keys-c c =
    let n = keys_long (plan_in c.args.table.words.now) c.args.keys.now c.requires.few c.requires.ordered in
    omega arith

pub leg-requires : goal.leg-requires
leg-requires c =
    let p = plan_in c.args.table.words.now in
    let n = keys_long p c.args.keys.now c.requires.few c.requires.ordered in
    let w = place_within p c.args.keys.now c.requires.few c.requires.ordered c.loop-c.c (omega arith) in
    omega arith

pub loop-c-preserved : goal.loop-c-preserved
loop-c-preserved c =
    let (legs, joins) = c.loop-c.invariant in
    let p = plan_in c.args.table.words.now in
    let i = c.loop-c.c in
    let is = c.leg.ensures.value ∙ ap (leg p) c.place_of.ensures in (
      row_more no_leg _ (λ m. leg p (place_at c.args.keys.now m)) _ i (omega arith) legs is,
      row_more false c.loop-c.joins (is_joined (set c.loop-c.legs i c.leg.result)) c.is_joined.result i (omega arith) (joins_kept c.loop-c.legs c.loop-c.joins c.leg.result i joins) c.is_joined.ensures,
    )

pub returns : goal.returns
returns c =
    let p = plan_in c.args.table.words.now in
    let checked : sound_words c.args.table.words.now ≡ true = search rules in
    let (legs, joins) = c.loop-c.invariant in
    record {
      legs = legs_laid p c.args.keys.now c.requires.few c.requires.ordered (sound_plan _ checked) _ (omega arith)
          (λ m h. legs m (omega arith));
      joins = λ m h. joins m (omega arith);
    }

use Rattle.std.proofs.Common.{sym, refl, ◌∙◌, arith}
use Rattle.rounds.specs.Rows.{plan_of}
use Rattle.rounds.proofs.Laying.{join_given}
use Rattle.rounds.proofs.Passes.{opens_stayed, opens_seeded, opens_else}
use Rattle.rounds.proofs.steps.opens.Goals as goal

pub is_stayed_for-requires : goal.is_stayed_for-requires
is_stayed_for-requires c =
    let laid = c.args.layout.laid in
    record {
      first = λ e.
          let g = join_given (plan_of c.args.layout).legs c.args.i (sym (laid.joined c.args.i c.requires.within) ∙ e) in
          omega (arith, g.1);
      joins = omega (arith, laid.joins_long);
      levels = omega arith;
    }

pub returns-then-is_stayed_for : goal.returns-then-is_stayed_for
returns-then-is_stayed_for c = (
  λ _. opens_stayed (plan_of c.args.layout) _ _ _ _ _ _ (c.args.layout.laid.joined c.args.i c.requires.within)
      (sym c.if-is_stayed_for.ensures),
  λ _. refl,
)

pub returns-then-is_seeded : goal.returns-then-is_seeded
returns-then-is_seeded c = (
  λ _. opens_seeded (plan_of c.args.layout) _ _ _ _ _ _ (c.args.layout.laid.joined c.args.i c.requires.within)
      (sym c.if-is_seeded.ensures),
  λ _. refl,
)

pub returns : goal.returns
returns c =
    opens_else (plan_of c.args.layout) _ _ _ _ _ _ (c.args.layout.laid.joined c.args.i c.requires.within)
    c.requires.going (sym c.if-is_stayed_for.ensures) (sym c.if-is_seeded.ensures) c.is_in_time.ensures

use Rattle.std.proofs.Common.{◌<◌, length, sym, arith}
use Rattle.std.proofs.lemmas.List.{take_rest}
use Rattle.std.proofs.lemmas.Bool.{eqb-true}
use Rattle.std.proofs.lemmas.Bool.Decides.{nat_tests}
use Rattle.plan.specs.Words.{plan_in}
use Rattle.updates.proofs.Said.{said_of_none, said_of_legs}
use Rattle.updates.proofs.still.word_on.Goals as goal

pub returns-then-is_empty : goal.returns-then-is_empty
returns-then-is_empty c =
    said_of_none (plan_in c.args.table.words.now) _ _ (length c.args.names.now) _ (eqb-true _ _ (sym c.if-is_empty.ensures))

pub returns : goal.returns
returns c =
    let gs = c.args.given.now in
    let long = c.read_names.auto.names in
    let e = c.if-is_empty.ensures in
    let some : 0 < length c.read_names.new.names = grind (arith, nat_tests) in
    said_of_legs (plan_in c.args.table.words.now) _ _ (length c.args.names.now) gs _ c.read_names.new.names _ _
    (take_rest gs 3) some c.read_names.ensures c.goes.ensures c.from.ensures

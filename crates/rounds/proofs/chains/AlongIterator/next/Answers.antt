use Rattle.std.proofs.Common.{◌-◌, arith, rules}
use Rattle.rounds.proofs.Along.{places_none, places_more}
use Rattle.rounds.proofs.chains.AlongIterator.next.Goals as goal

pub returns-then-self-eq0-clause-steps : goal.returns-then-self-eq0-clause-steps
returns-then-self-eq0-clause-steps c =
    let none = places_none c.args.self.now.prior.now c.args.self.now.at c.if-self-eq0.true in
    (none, none)

pub returns-clause-steps : goal.returns-clause-steps
returns-clause-steps c =
    let s = c.args.self.now in
    places_more s.prior.now s.falls s.at (s.at - 1) (omega arith) s.within

pub returns-clause-goes : goal.returns-clause-goes
returns-clause-goes c =
    let s = c.args.self.now in
    let more = places_more s.prior.now s.falls s.at (s.at - 1) (omega arith) s.within in
    search (rules, more)

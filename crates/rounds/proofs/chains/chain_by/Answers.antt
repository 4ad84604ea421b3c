use Rattle.std.proofs.Common.{◌≡◌, arith, rules}
use Rattle.rounds.proofs.chains.chain_by.Goals as goal

pub loop-i-preserved : goal.loop-i-preserved
loop-i-preserved g c = λ pier same.
    let before = c.loop-i.invariant pier (λ i s h. same i s (omega arith)) in
    let is : c.pier_of.result ≡ pier c.loop-i.i = same c.loop-i.i c.pier_of.result (omega arith) c.pier_of.ensures in
    search rules

pub returns : goal.returns
returns g c = λ pier same.
    let all = c.loop-i.invariant pier same in
    search rules

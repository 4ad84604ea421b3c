use Rattle.std.proofs.Common.{◌≡◌, ℕ, ◌<◌, length}
use Rattle.rounds.specs.Layout.{Chains}
use Rattle.rounds.proofs.chains.chain_by.Given as goal

abbrev pub invariant-loop-i : goal.invariant-loop-i
invariant-loop-i g l =
    (pier : ℕ → ℕ) → ((i s : ℕ) → i < length l.prior → goal.F-post g l.pier_of i s → s ≡ pier i) →
    Chains pier (length l.prior) (length l.last) l.last l.prior l.i

use Rattle.laws.proofs.AddedUp.{delays_swap}
use Rattle.laws.proofs.updating.delays_come_in_any_order.Goals as goal

pub returns : goal.returns
returns c = delays_swap

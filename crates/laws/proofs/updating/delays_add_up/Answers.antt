use Rattle.laws.proofs.AddedUp.{delays_add}
use Rattle.laws.proofs.updating.delays_add_up.Goals as goal

pub returns : goal.returns
returns c = delays_add

use Rattle.std.proofs.lemmas.List.{get_or-replicate}
use Rattle.rounds.proofs.workspace.Workspace.new.Goals as goal

pub returns : goal.returns
returns c = λ leg d h. get_or-replicate 1024 leg 0 d h

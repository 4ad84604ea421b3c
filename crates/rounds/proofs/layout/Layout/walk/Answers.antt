use Rattle.rounds.proofs.layout.Layout.walk.Goals as goal

pub returns-clause-within : goal.returns-clause-within
returns-clause-within c = c.args.self.laid.walks c.args.j c.requires

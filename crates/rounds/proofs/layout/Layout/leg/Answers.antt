use Rattle.rounds.proofs.layout.Layout.leg.Goals as goal

pub returns-clause-within : goal.returns-clause-within
returns-clause-within c = c.args.self.laid.legs c.args.i c.requires

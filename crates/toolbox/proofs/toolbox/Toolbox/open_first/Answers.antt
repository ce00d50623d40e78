use Rattle.toolbox.proofs.Resources.{opening_gives}
use Rattle.toolbox.proofs.toolbox.Toolbox.open_first.Goals as goal

pub returns-clause-opens : goal.returns-clause-opens
returns-clause-opens g c = opening_gives g.S.ForkStore c.args.self.now c.outcome.new.self 1 _ c.outcome.result c.outcome.ensures.gives

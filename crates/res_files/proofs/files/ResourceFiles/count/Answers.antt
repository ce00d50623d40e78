use Rattle.res_files.proofs.Found.{number_within}
use Rattle.res_files.proofs.files.ResourceFiles.count.Goals as goal

pub returns-clause-numbers : goal.returns-clause-numbers
returns-clause-numbers g c = number_within g.S.ForkStore.fork g.S.ForkStore.is_ready g.S.ForkStore.is_honest c.self.inside.chain c.self.inside.loads c.self.inside.stores.items c.args.self.now c.self.view_is c.self.invariant

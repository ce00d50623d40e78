use Rattle.res_files.proofs.Found.{current_open}
use Rattle.res_files.proofs.files.ResourceFiles.current.Goals as goal

pub returns-clause-open : goal.returns-clause-open
returns-clause-open g c = current_open g.S.ForkStore.fork g.S.ForkStore.is_ready g.S.ForkStore.is_honest c.self.inside.chain c.self.inside.loads c.self.inside.stores.items c.args.self.now c.self.view_is c.self.invariant c.current.result c.current.ensures

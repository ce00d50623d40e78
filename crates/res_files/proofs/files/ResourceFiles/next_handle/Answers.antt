use Rattle.res_files.proofs.Found.{few_rows}
use Rattle.res_files.proofs.NextHandle.{next_seen, none_seen, closed_seen}
use Rattle.res_files.proofs.files.ResourceFiles.next_handle.Goals as goal

pub returns-clause-some : goal.returns-clause-some
returns-clause-some g c = next_seen g.S.ForkStore.fork c.self.inside.chain c.self.inside.loads c.self.inside.stores.items c.args.self.now c.self.view_is c.args.number c.in_ok-table.table.now c.in_ok-table.ensures.some c.args.from c.next_handle.result c.next_handle.ensures.some

pub returns-clause-none : goal.returns-clause-none
returns-clause-none g c = none_seen g.S.ForkStore.fork c.self.inside.chain c.self.inside.loads c.self.inside.stores.items c.args.self.now c.self.view_is c.args.number c.in_ok-table.table.now c.in_ok-table.ensures.some c.args.from c.next_handle.result c.next_handle.ensures.none

pub returns-clause-few : goal.returns-clause-few
returns-clause-few g c = few_rows g.S.ForkStore.fork g.S.ForkStore.is_ready g.S.ForkStore.is_honest c.self.inside.chain c.self.inside.loads c.self.inside.stores.items c.args.self.now c.self.view_is c.self.invariant c.args.number

pub returns-in_err-table-clause-none : goal.returns-in_err-table-clause-none
returns-in_err-table-clause-none g c = rw c.from_residual.ensures (closed_seen g.S.ForkStore.fork c.self.inside.chain c.self.inside.loads c.self.inside.stores.items c.args.self.now c.self.view_is c.args.number c.in_err-table.ensures.none c.args.from)

pub returns-in_err-table-clause-few : goal.returns-in_err-table-clause-few
returns-in_err-table-clause-few g c = few_rows g.S.ForkStore.fork g.S.ForkStore.is_ready g.S.ForkStore.is_honest c.self.inside.chain c.self.inside.loads c.self.inside.stores.items c.args.self.now c.self.view_is c.self.invariant c.args.number

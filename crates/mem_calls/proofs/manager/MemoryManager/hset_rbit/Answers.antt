use Rattle.mem_calls.proofs.KeptLoans.{kept}
use Rattle.mem_calls.proofs.manager.MemoryManager.hset_rbit.Goals as goal

pub returns-clause-loans : goal.returns-clause-loans
returns-clause-loans c = kept c.set_flags.ensures.loans c.self.view_is

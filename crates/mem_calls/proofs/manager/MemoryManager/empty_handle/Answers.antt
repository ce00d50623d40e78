use Rattle.mem_calls.proofs.KeptLoans.{kept}
use Rattle.mem_calls.proofs.manager.MemoryManager.empty_handle.Goals as goal

pub returns-clause-loans : goal.returns-clause-loans
returns-clause-loans c = kept c.release.ensures.loans c.self.view_is

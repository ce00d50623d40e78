use Rattle.mem_calls.proofs.KeptLoans.{kept}
use Rattle.mem_calls.proofs.manager.MemoryManager.max_appl_zone.Goals as goal

pub returns-clause-loans : goal.returns-clause-loans
returns-clause-loans c = kept c.extend.ensures.loans c.self.view_is

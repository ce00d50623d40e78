use Rattle.mem_calls.proofs.KeptLoans.{kept}
use Rattle.mem_calls.proofs.manager.MemoryManager.next_purge.Goals as goal

pub returns-in-Requesting-clause-loans : goal.returns-in-Requesting-clause-loans
returns-in-Requesting-clause-loans c = kept c.next_requesting.ensures.loans c.self.view_is

pub returns-in-Filling-clause-loans : goal.returns-in-Filling-clause-loans
returns-in-Filling-clause-loans c = kept c.next_filling.ensures.loans c.self.view_is

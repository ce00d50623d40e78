use Rattle.mem_calls.proofs.KeptLoans.{kept_others}
use Rattle.mem_calls.proofs.manager.MemoryManager.give_back.Goals as goal

pub returns-clause-loans : goal.returns-clause-loans
returns-clause-loans c = kept_others c.give_back.ensures.loans c.self.view_is

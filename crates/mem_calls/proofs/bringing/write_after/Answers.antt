use Rattle.mem_calls.proofs.Brought.{KeepsLoans-written}
use Rattle.mem_calls.proofs.bringing.write_after.Goals as goal

pub returns-clause-loans : goal.returns-clause-loans
returns-clause-loans c = KeepsLoans-written c.args.zone.now c.args.block _ c.requires.full

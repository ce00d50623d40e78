use Rattle.held_calls.proofs.Places.{first_taken}
use Rattle.held_calls.proofs.loans.Loans.take_first.Goals as goal

pub returns-clause-first : goal.returns-clause-first
returns-clause-first c = first_taken c.in_ok-block.block c.args.self.now c.in_ok-loan.loan c.take_out.new.self (rw (← c.self.view_is) c.in_ok-block.ensures.first) c.in_ok-loan.ensures.loan

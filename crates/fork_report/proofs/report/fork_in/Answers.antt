use Rattle.fork_answer.specs.declared.answer.Failure.TheVariants as failure
use Rattle.fork_report.proofs.report.fork_in.Goals as goal

pub returns-in-Err-clause-refused : goal.returns-in-Err-clause-refused
returns-in-Err-clause-refused c = (failure.NoFork c.in-Err.fault, c.in-Err.ensures.none, c.of_failure.ensures)

use Rattle.std.proofs.Common.{ℕ, List, subst}
use Rattle.fork_answer.specs.declared.answer.Failure.TheVariants as failure
use Rattle.fork_answer.specs.Answer.{IsTableOf}
use Rattle.fork_report.specs.Refused.{IsForkCause}
use Rattle.fork_report.proofs.json.list_line.Goals as goal

pub returns-in-Err-clause-refused : goal.returns-in-Err-clause-refused
returns-in-Err-clause-refused c =
    subst (λ (f : List ℕ). IsForkCause f (failure.Fork c.in-Err.fault)) c.fork.ensures c.in-Err.ensures

pub returns-clause-table : goal.returns-clause-table
returns-clause-table c = (c.in-Ok.table, subst (λ (f : List ℕ). IsTableOf f c.in-Ok.table) c.fork.ensures c.in-Ok.ensures)

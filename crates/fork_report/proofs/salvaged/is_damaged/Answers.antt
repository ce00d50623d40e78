use Rattle.std.proofs.Common.{sym, ◌∙◌}
use Rattle.fork_list.proofs.Reading.{some_if}
use Rattle.fork_report.proofs.Refusing.{empty_whole, fault_damages, no_fault_damages}
use Rattle.fork_report.proofs.salvaged.is_damaged.Goals as goal

pub returns-then-is_empty-clause-whole : goal.returns-then-is_empty-clause-whole
returns-then-is_empty-clause-whole c = λ _. empty_whole c.args.fork.now (sym c.is_empty.ensures ∙ c.if-is_empty.true)

pub returns-clause-damaged : goal.returns-clause-damaged
returns-clause-damaged c = λ is.
    fault_damages _ _ (some_if _ _ c.is_empty.ensures c.if-is_empty.false) c.first_fault.ensures.refuses (sym c.is_some.ensures ∙ is)

pub returns-clause-whole : goal.returns-clause-whole
returns-clause-whole c = λ is. no_fault_damages _ _ c.first_fault.ensures.none (sym c.is_some.ensures ∙ is)

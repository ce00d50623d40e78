use Rattle.fork_list.proofs.Reading.{some_if}
use Rattle.fork_report.proofs.Refusing.{all_damaged, all_whole}
use Rattle.fork_report.proofs.report.faults_of.Goals as goal

pub returns-clause-damaged : goal.returns-clause-damaged
returns-clause-damaged c =
    all_damaged c.args.fork.now c.all_faults.result (some_if _ _ c.is_empty.ensures c.if-is_empty.false) c.all_faults.ensures.none

pub returns-clause-whole : goal.returns-clause-whole
returns-clause-whole c = all_whole c.args.fork.now c.all_faults.result c.all_faults.ensures.fork

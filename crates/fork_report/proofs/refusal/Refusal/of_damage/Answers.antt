use Rattle.fork_report.proofs.Salvaging.{told_other, told_taken}
use Rattle.fork_report.proofs.refusal.Refusal.of_damage.Goals as goal

pub returns-in-Some-of_other : goal.returns-in-Some-of_other
returns-in-Some-of_other c = told_other c.args.file.now _ _ _ c.in-Some.ensures.damage c.in-Some-of_other.ensures.other

pub returns-in-None : goal.returns-in-None
returns-in-None c = told_taken c.args.file.now _ _ _ c.in-Some.ensures.damage c.in-None.ensures.taken c.damaged.ensures

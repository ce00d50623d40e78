use Rattle.std.proofs.Common.{Ok, Err, refl}
use Rattle.fork_saves.specs.Putting.{PutsOver, unknown}
use Rattle.fork_saves.proofs.Saved.{renewed_good}
use Rattle.fork_saves.proofs.save.renewed.Goals as goal

pub returns-in-Ok-put-clause-renewed : goal.returns-in-Ok-put-clause-renewed
returns-in-Ok-put-clause-renewed c = λ empty. renewed_good unknown unknown c.args.change.now.keeps_old c.args.held c.args.change.now.old.now c.args.change.now.new.now c.in-Ok.prepared c.in-Ok-put.field-0
    c.args.log.now.events c.prepare.new.log.events c.put.new.log.events empty c.in-Ok.ensures c.in-Ok-put.ensures

pub returns-in-Ok-put-clause-does : goal.returns-in-Ok-put-clause-does
unfolding PutsOver
returns-in-Ok-put-clause-does c = (Ok c.in-Ok.prepared, c.prepare.new.log.events, c.in-Ok.ensures, (c.in-Ok-put.field-0, c.in-Ok-put.ensures))

pub returns-in-Err-put-clause-does : goal.returns-in-Err-put-clause-does
unfolding PutsOver
returns-in-Err-put-clause-does c = (Ok c.in-Ok.prepared, c.prepare.new.log.events, c.in-Ok.ensures, c.in-Err-put.ensures)

pub returns-in-Err-clause-does : goal.returns-in-Err-clause-does
unfolding PutsOver
returns-in-Err-clause-does c = (Err c.in-Err.refusal, c.prepare.new.log.events, c.in-Err.ensures, (refl, refl))

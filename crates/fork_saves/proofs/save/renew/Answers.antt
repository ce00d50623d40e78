use Rattle.std.proofs.Common.{Ok, Err, refl}
use Rattle.fork_saves.specs.Putting.{ByCalls}
use Rattle.fork_saves.proofs.Saved.{saved_renewed}
use Rattle.fork_saves.proofs.save.renew.Goals as goal

pub returns-in-Ok-clause-does : goal.returns-in-Ok-clause-does
unfolding ByCalls
returns-in-Ok-clause-does c = (Ok tt, refl, (c.renewed-done.new.log.events, rw c.new-log.ensures at c.in-Ok.ensures.does, c.note_saved.ensures))

pub returns-in-Err-clause-does : goal.returns-in-Err-clause-does
unfolding ByCalls
returns-in-Err-clause-does c = (Err c.in-Err.refusal, refl, (c.renewed-done.new.log.events, rw c.new-log.ensures at c.in-Err.ensures.does, c.note_saved.ensures))

pub returns-in-Ok-clause-saves : goal.returns-in-Ok-clause-saves
returns-in-Ok-clause-saves c = λ read. saved_renewed c.args.change.now.old.now c.args.change.now.new.now c.renewed-done.new.log.events c.args.acts.now.events c.note_saved.new.acts.events c.note_saved.ensures read
    (c.in-Ok.ensures.renewed c.new-log.ensures)

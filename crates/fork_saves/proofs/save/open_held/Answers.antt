use Rattle.std.proofs.Common.{Ok, Err, refl}
use Rattle.fork_saves.specs.Putting.{ByCalls}
use Rattle.fork_saves.proofs.save.open_held.Goals as goal

pub returns-in-Ok-clause-does : goal.returns-in-Ok-clause-does
unfolding ByCalls
returns-in-Ok-clause-does c = (Ok c.in-Ok.held, refl, (c.open-held.new.log.events, rw c.new-log.ensures at c.in-Ok.ensures, c.note_saved.ensures))

pub returns-in-Err-clause-does : goal.returns-in-Err-clause-does
unfolding ByCalls
returns-in-Err-clause-does c = (Err c.in-Err.refusal, refl, (c.open-held.new.log.events, rw c.new-log.ensures at c.in-Err.ensures, c.note_saved.ensures))

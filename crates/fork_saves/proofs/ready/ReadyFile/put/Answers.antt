use Rattle.std.proofs.Common.{Ok, Err, refl}
use Rattle.fork_saves.specs.Putting.{ByCalls, PutsFile}
use Rattle.fork_saves.proofs.ready.ReadyFile.put.Goals as goal

pub returns-in-Ok-clause-does : goal.returns-in-Ok-clause-does
unfolding PutsFile ByCalls
returns-in-Ok-clause-does c = (Ok c.in-Ok.field-0, refl, (c.put-done.new.log.events, rw c.new-log.ensures at c.in-Ok.ensures, c.note_saved.ensures))

pub returns-in-Err-clause-does : goal.returns-in-Err-clause-does
unfolding PutsFile ByCalls
returns-in-Err-clause-does c = (Err c.in-Err.error, c.not_saved.ensures.told, (c.put-done.new.log.events, rw c.new-log.ensures at c.in-Err.ensures, c.note_saved.ensures))

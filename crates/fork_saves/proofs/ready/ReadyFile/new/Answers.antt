use Rattle.std.proofs.Common.{refl}
use Rattle.fork_saves.specs.Putting.{ByCalls, MakesFile}
use Rattle.fork_saves.proofs.ready.ReadyFile.new.Goals as goal

pub returns-in-Ok-clause-does : goal.returns-in-Ok-clause-does
unfolding MakesFile ByCalls
returns-in-Ok-clause-does c = (refl, (c.prepared-prepared.new.log.events, rw c.new-log.ensures at c.in-Ok.ensures.does, c.note_saved.ensures))

pub returns-in-Err-clause-does : goal.returns-in-Err-clause-does
unfolding MakesFile ByCalls
returns-in-Err-clause-does c = (c.in-Err.error, c.not_saved.ensures.told, (c.prepared-prepared.new.log.events, rw c.new-log.ensures at c.in-Err.ensures.does, c.note_saved.ensures))

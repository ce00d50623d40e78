use Rattle.std.proofs.Common.{Ok, Err, refl}
use Rattle.fork_saves.specs.Putting.{PreparesPath, unknown}
use Rattle.fork_saves.proofs.Saved.{prepared_if}
use Rattle.fork_saves.proofs.save.prepared.Goals as goal

pub returns-in-Ok-clause-whole : goal.returns-in-Ok-clause-whole
returns-in-Ok-clause-whole c = prepared_if unknown c.in-Ok.destination c.args.bytes.now c.prepare.result c.open.new.log.events c.prepare.new.log.events c.prepare.ensures

pub returns-in-Ok-clause-does : goal.returns-in-Ok-clause-does
unfolding PreparesPath
returns-in-Ok-clause-does c = (Ok c.in-Ok.destination, c.open.new.log.events, c.in-Ok.ensures, c.prepare.ensures)

pub returns-in-Err-clause-does : goal.returns-in-Err-clause-does
unfolding PreparesPath
returns-in-Err-clause-does c = (Err c.in-Err.refusal, c.open.new.log.events, c.in-Err.ensures, (refl, refl))

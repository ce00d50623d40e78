use Rattle.std.proofs.Common.{Ok, Err, refl}
use Rattle.fork_saves.specs.Putting.{PutsFiles, unknown}
use Rattle.fork_saves.proofs.Saved.{saved_two}
use Rattle.fork_saves.proofs.save.put_files.Goals as goal

pub returns-in-Ok-clause-does : goal.returns-in-Ok-clause-does
unfolding PutsFiles
returns-in-Ok-clause-does c = (Ok c.in-Ok.field-0, c.put_both-done.new.log.events, refl, rw c.new-log.ensures at c.in-Ok.ensures, c.note_saved.ensures)

pub returns-in-Err-clause-does : goal.returns-in-Err-clause-does
unfolding PutsFiles
returns-in-Err-clause-does c = (Err c.in-Err.why, c.put_both-done.new.log.events, c.not_both.ensures, rw c.new-log.ensures at c.in-Err.ensures, c.note_saved.ensures)

pub returns-in-Ok-clause-saves : goal.returns-in-Ok-clause-saves
returns-in-Ok-clause-saves c = λ whole bytes to. saved_two unknown unknown whole.0 bytes c.args.first.prepared c.args.second.prepared c.in-Ok.field-0 c.new-log.result.events c.put_both-done.new.log.events
    c.args.acts.now.events c.note_saved.new.acts.events c.new-log.ensures c.in-Ok.ensures c.note_saved.ensures whole.1 to

use Rattle.std.proofs.Common.{Ok, Err, refl, ap}
use Rattle.file_acts.specs.declared.message.Problem.{Problem}
use Rattle.fork_saves.specs.Changing.{SaysAfter}
use Rattle.fork_saves.proofs.change.say_after.Goals as goal

pub returns-in-Ok-clause-does : goal.returns-in-Ok-clause-does
unfolding SaysAfter
returns-in-Ok-clause-does c = (Ok c.in-Ok.status, c.in-Ok.ensures.does, refl)

pub returns-in-Err-clause-does : goal.returns-in-Err-clause-does
unfolding SaysAfter
returns-in-Err-clause-does c = (Err c.in-Err.problem, c.in-Err.ensures.does, ap (λ (why : Problem). Err why) c.after_change.ensures)

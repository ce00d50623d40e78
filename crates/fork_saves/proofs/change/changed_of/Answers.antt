use Rattle.fork_saves.proofs.change.changed_of.Goals as goal

pub returns-in-Err : goal.returns-in-Err
returns-in-Err c = (c.in-Err.fault, c.in-Err.ensures, c.of_change.ensures)

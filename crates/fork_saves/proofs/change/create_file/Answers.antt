use Rattle.fork_saves.specs.Changing.{Creates}
use Rattle.fork_saves.proofs.change.create_file.Goals as goal

pub returns-clause-does : goal.returns-clause-does
unfolding Creates
returns-clause-does c = rw c.or.ensures at c.change_into.ensures.does

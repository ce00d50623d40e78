use Rattle.fork_words.proofs.Naming.{all_each}
use Rattle.fork_words.proofs.work.resources_named.Goals as goal

pub returns-clause-whats : goal.returns-clause-whats
returns-clause-whats c = all_each _ _ _ _ c.loop-word-test.false c.loop-word.invariant

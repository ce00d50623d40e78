use Rattle.std.proofs.Common.{refl}
use Rattle.fork_words.proofs.Naming.{found_named}
use Rattle.fork_words.proofs.asked.kinds_named.Goals as goal

pub returns-clause-kinds : goal.returns-clause-kinds
returns-clause-kinds c = found_named c.get_strs.result _ _ _ _ _ refl c.get_strs.ensures c.unwrap_or-word-items.ensures c.loop-word-test.false c.loop-word.invariant

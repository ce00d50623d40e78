use Rattle.fork_words.proofs.Naming.{all_each, each_choice}
use Rattle.fork_words.proofs.work.choices_named.Goals as goal

pub returns-clause-chosen : goal.returns-clause-chosen
returns-clause-chosen c = each_choice c.args.words.now _ _ c.if-is_empty.false c.is_empty.ensures (all_each _ _ _ _ c.loop-word-test.false c.loop-word.invariant)

use Rattle.fork_words.proofs.Naming.{NameSoFar}
use Rattle.fork_words.proofs.asked.kinds_named.Given as goal

abbrev pub invariant-loop-word : goal.invariant-loop-word
invariant-loop-word l = NameSoFar l.word-items l.word-index l.kinds.items

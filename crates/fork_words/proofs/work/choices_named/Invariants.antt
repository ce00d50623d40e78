use Rattle.fork_words.specs.Named.{NamesChoice}
use Rattle.fork_words.proofs.Naming.{EachSoFar}
use Rattle.fork_words.proofs.work.choices_named.Given as goal

abbrev pub invariant-loop-word : goal.invariant-loop-word
invariant-loop-word l = EachSoFar NamesChoice l.words l.word-index l.chosen.items

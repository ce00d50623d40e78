use Rattle.fork_words.specs.Named.{NamesIdOf}
use Rattle.fork_words.proofs.Naming.{EachSoFar}
use Rattle.fork_words.proofs.work.resources_named.Given as goal

abbrev pub invariant-loop-word : goal.invariant-loop-word
invariant-loop-word l = EachSoFar (NamesIdOf l.kind) l.words l.word-index l.whats.items

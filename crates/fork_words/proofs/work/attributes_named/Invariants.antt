use Rattle.fork_words.specs.Given.{texts_of}
use Rattle.fork_words.specs.Named.{NameBits}
use Rattle.fork_words.proofs.work.attributes_named.Given as goal

abbrev pub invariant-loop-word : goal.invariant-loop-word
invariant-loop-word l = NameBits 0 (texts_of l.yielded) l.attributes.0

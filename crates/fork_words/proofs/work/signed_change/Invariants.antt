use Rattle.fork_words.specs.Given.{texts_of}
use Rattle.fork_words.specs.Named.{ChangeBits, no_change}
use Rattle.fork_words.proofs.work.signed_change.Given as goal

abbrev pub invariant-loop-word : goal.invariant-loop-word
invariant-loop-word l = ChangeBits no_change (texts_of l.yielded) l.change

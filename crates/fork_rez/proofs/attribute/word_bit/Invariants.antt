use Rattle.std.proofs.Common.{◌≡◌, drop}
use Rattle.fork_rez.specs.Reading.{word_among}
use Rattle.fork_rez.proofs.attribute.word_bit.Given as goal

-- the words so far aren't there
abbrev pub invariant-loop-attribute : goal.invariant-loop-attribute
invariant-loop-attribute l = word_among (drop l.attribute-index l.attribute-items) l.text ≡ word_among l.attribute-items l.text

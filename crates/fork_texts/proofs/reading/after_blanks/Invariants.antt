use Rattle.std.proofs.Common.{◌≡◌, length}
use Rattle.fork_texts.specs.Reading.{after_blanks}
use Rattle.fork_texts.proofs.reading.after_blanks.Given as goal

-- what is left goes on as all does
abbrev pub invariant-loop-byte : goal.invariant-loop-byte
invariant-loop-byte l = after_blanks l.rest ≡ after_blanks l.initial.rest

abbrev pub decreases-loop-byte : goal.decreases-loop-byte
decreases-loop-byte l = length l.rest

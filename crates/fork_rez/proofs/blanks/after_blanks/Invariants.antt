use Rattle.std.proofs.Common.{◌≡◌, length}
use Rattle.fork_rez.specs.Reading.{skip}
use Rattle.fork_rez.proofs.blanks.after_blanks.Given as goal

-- what is left is to be skipped as all was
abbrev pub invariant-loop-byte : goal.invariant-loop-byte
invariant-loop-byte l = skip l.at l.rest ≡ skip l.initial.at l.initial.rest

abbrev pub decreases-loop-byte : goal.decreases-loop-byte
decreases-loop-byte l = length l.rest

use Rattle.std.proofs.Common.{◌≡◌, take}
use Rattle.fork_change.proofs.comparing.first_difference.Given as goal

-- the bytes so far are the same
abbrev pub invariant-loop-at : goal.invariant-loop-at
invariant-loop-at l = take l.at l.bytes ≡ take l.at l.other

use Rattle.std.proofs.Common.{◌≡◌, ◌≤◌, length}
use Rattle.fork_texts.specs.Reading.{number_from}
use Rattle.fork_texts.proofs.reading.number_from.Given as goal

-- with the digits that are left, the number so far is the whole one; it is within the limit
abbrev pub invariant-loop-byte : goal.invariant-loop-byte
invariant-loop-byte l = (number_from l.why l.limit l.number l.rest ≡ number_from l.why l.limit 0 l.initial.rest) × (l.number ≤ l.limit)

abbrev pub decreases-loop-byte : goal.decreases-loop-byte
decreases-loop-byte l = length l.rest

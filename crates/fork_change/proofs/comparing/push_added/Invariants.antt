use Rattle.std.proofs.Common.{◌≡◌, ◌++◌, [], map, take, drop}
use Rattle.fork_change.specs.Differences.{added_in, shown}
use Rattle.fork_change.specs.Index.{HasCounted}
use Rattle.fork_change.proofs.comparing.push_added.Given as goal

-- what was found, and what differs of the other rows, is all; the rows so far are counted
abbrev pub invariant-loop-at : goal.invariant-loop-at
invariant-loop-at l =
    (map shown l.found.items ++ added_in l.first (take l.at l.second) (drop l.at l.second) ≡ map shown l.fn.found.items ++ added_in l.first [] l.second)
    × HasCounted l.counts (take l.at l.second)

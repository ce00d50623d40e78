use Rattle.std.proofs.Common.{◌≡◌, ◌++◌, [], map, take, drop}
use Rattle.fork_change.specs.Differences.{changed_in, shown}
use Rattle.fork_change.specs.Index.{HasCounted}
use Rattle.fork_change.proofs.comparing.push_changed.Given as goal

-- what was found, and what differs of the other rows, is all; the rows so far are counted
abbrev pub invariant-loop-at : goal.invariant-loop-at
invariant-loop-at l =
    (map shown l.found.items ++ changed_in l.second (take l.at l.first) (drop l.at l.first) ≡ map shown l.fn.found.items ++ changed_in l.second [] l.first)
    × HasCounted l.counts (take l.at l.first)

use Rattle.std.proofs.Common.{◌≡◌, ◌+◌, ◌++◌, length, drop}
use Rattle.fork_bytes.specs.Written.{data_text}
use Rattle.res_update.specs.Drafts.{new_places}
use Rattle.res_update.proofs.ranges.new_places.Given as goal

-- the places so far and those of the other rows are all, and so are the data
abbrev pub invariant-loop-row : goal.invariant-loop-row
invariant-loop-row l = (l.places.items ++ new_places l.end (drop l.row-index l.rows) ≡ new_places 256 l.rows)
    × (256 + length (data_text l.rows) ≡ l.end + length (data_text (drop l.row-index l.rows)))

use Rattle.std.proofs.Common.{◌≡◌, map}
use Rattle.fork_bytes.specs.Fork.{data_of, row_with, HasData}
use Rattle.fork_bytes.proofs.read.find_rows.Given as goal

-- the rows so far have places, which lie within the data
abbrev pub invariant-loop-row : goal.invariant-loop-row
invariant-loop-row l = (goal.iterator-loop-row).can_next l.row-iterator × (goal.iterator-loop-row).is_finite l.row-iterator
    × (l.found.items ≡ map (row_with (data_of l.fork)) l.yielded) × HasData (data_of l.fork) l.yielded

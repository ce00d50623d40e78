use Rattle.std.proofs.Common.{◌≡◌, ◌-◌, ◌++◌, map}
use Rattle.std.specs.List.{range_with_len}
use Rattle.fork_drawings.specs.Regions.{count_at, points_at, points_in, word_of}
use Rattle.fork_drawings.proofs.region.points_at.Given as goal

-- the points so far, and those of the words that are left, are all
abbrev pub invariant-loop-place : goal.invariant-loop-place
invariant-loop-place l =
    l.points.items ++ points_in l.row (map (word_of l.bytes l.at) (range_with_len l.place (count_at l.bytes l.at - l.place)))
    ≡ points_at l.bytes l.at

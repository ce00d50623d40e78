use Rattle.std.proofs.Common.{◌≡◌, ◌-◌, ◌++◌}
use Rattle.fork_drawings.specs.Packed.{repeated}
use Rattle.fork_drawings.proofs.packed.push_times.Given as goal

-- the pieces so far, and those that are left
abbrev pub invariant-loop-time : goal.invariant-loop-time
invariant-loop-time l = l.row.items ++ repeated (l.times - l._time) l.piece ≡ l.fn.row.items ++ repeated l.times l.piece

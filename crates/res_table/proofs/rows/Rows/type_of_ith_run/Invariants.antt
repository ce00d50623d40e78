use Rattle.std.proofs.Common.{length, ◌-◌, ◌≡◌, ◌≤◌, drop, map}
use Rattle.fork_bytes.specs.Written.{types_of}
use Rattle.res_table.specs.Rows.{ith}
use Rattle.res_table.specs.Saved.{bare, kind_of}
use Rattle.res_table.proofs.rows.Rows.type_of_ith_run.Given as goal

-- the type is the one of the others that is left
abbrev pub invariant-loop-at : goal.invariant-loop-at
invariant-loop-at g l = (ith l.left (map kind_of (types_of (drop l.at (bare l.self-inside.rows.items)))) ≡ ith l.fn.i (map kind_of (types_of (bare l.self-inside.rows.items)))) × (l.at ≤ length l.self-inside.rows.items)

abbrev pub decreases-loop-at : goal.decreases-loop-at
decreases-loop-at g l = length l.self-inside.rows.items - l.at

use Rattle.std.proofs.Common.{◌≡◌, ◌≤◌, ◌-◌, length}
use Rattle.pict_bytes.specs.Planes.{rows_end}
use Rattle.pict_bytes.proofs.plane.rows_end.Given as goal

-- the rows that are left end where all end
abbrev pub invariant-loop-row : goal.invariant-loop-row
invariant-loop-row l = (rows_end l.bytes l.at l.is_wide (l.count - l._row) ≡ rows_end l.bytes l.start l.is_wide l.count) × (l.at ≤ length l.bytes)

use Rattle.std.proofs.Common.{◌≡◌, ◌*◌, ◌≤◌, length, take}
use Rattle.std.specs.List.{flat_map}
use Rattle.fork_bytes.specs.Rows.{Row}
use Rattle.fork_c.specs.Told.{name_of}
use Rattle.fork_c.proofs.all.sizes_of.Given as goal

-- the sizes of the rows so far
abbrev pub invariant-loop-row : goal.invariant-loop-row
invariant-loop-row l = (l.sizes.rows ≡ length l.rows) × (l.sizes.names ≡ length (flat_map name_of (take l.row-index l.rows)))
    × (l.sizes.contents ≡ length (flat_map (λ (row : Row). row.datum) (take l.row-index l.rows))) × (l.sizes.names ≤ 255 * l.row-index)

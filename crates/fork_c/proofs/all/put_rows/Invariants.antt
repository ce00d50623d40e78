use Rattle.std.proofs.Common.{◌≡◌, length, map, take}
use Rattle.fork_bytes.specs.Rows.{Row}
use Rattle.fork_c.specs.Told.{name_of, shown_row}
use Rattle.fork_c.proofs.Pieces.{ArePut}
use Rattle.fork_c.proofs.all.put_rows.Given as goal

-- what is of the rows so far is put
abbrev pub invariant-loop-i : goal.invariant-loop-i
invariant-loop-i l = (take l.i l.rows ≡ map shown_row (take l.i l.found)) × (length l.rows ≡ length l.found)
    × ArePut name_of l.found l.i l.names_end l.names × ArePut (λ (row : Row). row.datum) l.found l.i l.contents_end l.contents

use Rattle.std.proofs.Common.{◌≡◌, ◌++◌, take, drop, map}
use Rattle.std.specs.Prelude.{count_by}
use Rattle.fork_bytes.specs.Rows.{Row}
use Rattle.fork_folder.specs.Counts.{count_of}
use Rattle.fork_folder.specs.Unpacked.{chosen, file_row, files_from, is_same, types_of, unpacked, unpacked_file}
use Rattle.fork_folder.proofs.files.unpacked.Given as goal

-- the files so far, with those of the rows that are left, are all, and their rows are those of these types; each type
-- and id is counted
abbrev pub invariant-loop-row : goal.invariant-loop-row
invariant-loop-row l =
    (map unpacked_file l.files.items ++ files_from (types_of l.rows) l.kinds (take l.row-index l.rows) (drop l.row-index l.rows) ≡ unpacked l.kinds l.rows)
    × (map file_row l.files.items ≡ chosen l.kinds (take l.row-index l.rows))
    × ((row : Row) → count_of l.counts row ≡ count_by (is_same row) (take l.row-index l.rows))

use Rattle.std.proofs.Common.{◌≡◌, ◌++◌, map, drop}
use Rattle.res_table.specs.Rows.{opened_row}
use Rattle.row_image.specs.Images.{as_opened}
use Rattle.row_image.proofs.image.resources_of.Given as goal

-- the resources so far, and the other rows are all, as they are when a file is opened
abbrev pub invariant-loop-row : goal.invariant-loop-row
invariant-loop-row l = map opened_row l.resources.items ++ map as_opened (drop l.row-index l.rows) ≡ map as_opened l.rows

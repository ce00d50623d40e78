use Rattle.std.proofs.Common.{◌≡◌, ◌++◌, map, drop, Some}
use Rattle.row_image.specs.Reading.{row_in}
use Rattle.row_image.proofs.image.rows_of.Given as goal

-- the rows so far, and what the other resources say are all
abbrev pub invariant-loop-resource : goal.invariant-loop-resource
invariant-loop-resource l = map Some l.rows.items ++ map row_in (drop l.resource-index l.resources) ≡ map row_in l.resources

use Rattle.std.proofs.Common.{◌≡◌, ◌++◌, map, drop}
use Rattle.std.specs.List.{AllByRecursion}
use Rattle.row_image.specs.Infos.{info_resource}
use Rattle.row_image.specs.Images.{IsToldRow}
use Rattle.row_image.proofs.image.info_rows.Given as goal

-- the resources so far, and those of the other rows are all; and what is said of the others is all that is left to know
abbrev pub invariant-loop-index : goal.invariant-loop-index
invariant-loop-index l = (l.made.items ++ map info_resource (drop l.index l.rows) ≡ map info_resource l.rows)
    × (AllByRecursion IsToldRow (drop l.index l.rows) → AllByRecursion IsToldRow l.rows)

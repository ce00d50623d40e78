use Rattle.std.proofs.Common.{◌≡◌, ◌≤◌, length, take}
use Rattle.res_table.specs.AllFiles.{ith_place}
use Rattle.res_table.proofs.all_files.place_of_ith.Given as goal

-- the place is in the files that are left, by what is left of the index
abbrev pub invariant-loop-end : goal.invariant-loop-end
invariant-loop-end g l = (ith_place l.kind l.left (take l.end l.files) ≡ ith_place l.kind l.fn.i l.files) × (l.end ≤ length l.files)

abbrev pub decreases-loop-end : goal.decreases-loop-end
decreases-loop-end g l = l.end

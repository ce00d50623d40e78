use Rattle.std.proofs.Common.{◌≡◌, length, map}
use Rattle.fork_folder.specs.Packed.{folder_of, listed, packed}
use Rattle.fork_folder.proofs.Front.{after_rows}
use Rattle.fork_folder.proofs.rows.packed.Given as goal

-- the rows so far, with those of the entries that are left, are all
abbrev pub invariant-loop-entry : goal.invariant-loop-entry
invariant-loop-entry l = after_rows l.rows.items (packed (folder_of l.files) (map listed l.left)) ≡ packed (folder_of l.files) (map listed l.initial.left)

abbrev pub decreases-loop-entry : goal.decreases-loop-entry
decreases-loop-entry l = length l.left

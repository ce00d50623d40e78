use Rattle.std.proofs.Common.{◌≡◌, ℕ, ◌<◌, false, List, get_or, map}
use Rattle.hfs_volume.specs.declared.entry.Entry.{Entry}
use Rattle.volume_names.specs.Paths.{HasFolders, items_of}
use Rattle.volume_names.specs.Things.{has_path}
use Rattle.volume_names.proofs.find.find_by.Given as goal

-- no thing so far has the path
abbrev pub invariant-loop-index : goal.invariant-loop-index
invariant-loop-index l = (entries : List Entry) → HasFolders l.folders entries → (d : Entry) (k : ℕ) → k < l.index
    → has_path l.rule entries (map items_of l.path) (get_or l.things k d) ≡ false

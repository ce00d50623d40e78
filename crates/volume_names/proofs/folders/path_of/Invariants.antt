use Rattle.std.proofs.Common.{◌≡◌, ◌-◌, List, reverse}
use Rattle.hfs_volume.specs.declared.entry.Entry.{Entry}
use Rattle.volume_names.specs.Paths.{HasFolders, path_within}
use Rattle.volume_names.proofs.Upwards.{before_all}
use Rattle.volume_names.proofs.folders.path_of.Given as goal

-- the path is that of the folder that was reached, and then the names, of which the last comes first
abbrev pub invariant-loop-step : goal.invariant-loop-step
invariant-loop-step l = (entries : List Entry) → HasFolders l.folders entries
    → before_all (reverse l.names.items) (path_within (256 - l.step) entries l.below) ≡ path_within 256 entries l.fn.id

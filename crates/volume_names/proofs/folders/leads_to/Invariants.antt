use Rattle.std.proofs.Common.{◌≡◌, ◌-◌, ◌≤◌, List, length, map, take}
use Rattle.hfs_volume.specs.declared.entry.Entry.{Entry}
use Rattle.volume_names.specs.Paths.{HasFolders, has_texts, items_of, path_within}
use Rattle.volume_names.proofs.folders.leads_to.Given as goal

-- the texts are those of the path where the first ones are those of the folder that was reached
abbrev pub invariant-loop-step : goal.invariant-loop-step
invariant-loop-step l = (l.left ≤ length l.path) × ((entries : List Entry) → HasFolders l.folders entries
    → has_texts l.rule (map items_of (take l.left l.path)) (path_within (256 - l.step) entries l.below) ≡ has_texts l.rule (map items_of l.path) (path_within 256 entries l.fn.id))

use Rattle.std.proofs.Common.{take}
use Rattle.volume_names.specs.Paths.{HasFolders}
use Rattle.volume_names.proofs.folders.folders_by_id.Given as goal

-- those of the records so far
abbrev pub invariant-loop-entry : goal.invariant-loop-entry
invariant-loop-entry l = HasFolders l.folders (take l.entry-index l.entries)

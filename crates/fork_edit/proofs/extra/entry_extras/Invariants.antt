use Rattle.std.proofs.Common.{◌≡◌, ◌+◌, ◌-◌, ◌*◌, ◌++◌}
use Rattle.std.specs.List.{filter_map}
use Rattle.mac_files.specs.Apple.{entries_from, entries_of, entry_count}
use Rattle.fork_edit.specs.Extras.{extra_of}
use Rattle.fork_edit.proofs.extra.entry_extras.Given as goal

-- what was found, and what the other entries have, is what all have
abbrev pub invariant-loop-index : goal.invariant-loop-index
invariant-loop-index l =
    l.extras.items ++ filter_map (extra_of l.file) (entries_from l.file (26 + 12 * l.index) (entry_count l.file - l.index))
    ≡ filter_map (extra_of l.file) (entries_of l.file)

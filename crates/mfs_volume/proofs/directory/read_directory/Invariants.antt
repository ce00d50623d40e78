use Rattle.std.proofs.Common.{◌≡◌, ◌-◌}
use Rattle.mfs_volume.specs.Directory.{entries_in, entries_before}
use Rattle.mfs_volume.proofs.directory.read_directory.Given as goal

-- the entries so far, with those of the blocks from here on, are all
abbrev pub invariant-loop-index : goal.invariant-loop-index
invariant-loop-index l = entries_in l.place l.bytes l.count 0 ≡ entries_before l.files.items (entries_in l.place l.bytes (l.count - l.index) l.index)

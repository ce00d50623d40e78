use Rattle.std.proofs.Common.{◌≡◌, ◌-◌, ◌<◌}
use Rattle.mfs_volume.specs.Directory.{Entries, entries_from, entries_before}
use Rattle.mfs_volume.proofs.directory.push_entries.Given as goal

-- the entries so far, with those from here on, are all of the block
abbrev pub invariant-loop-step : goal.invariant-loop-step
invariant-loop-step l = record {
  same : (rest : Entries) → entries_before l.fn.files.items (entries_from l.place l.block 10 0 rest) ≡ entries_before l.files.items (entries_from l.place l.block (10 - l.step) l.at rest);
  near : l.at < 1024;
}

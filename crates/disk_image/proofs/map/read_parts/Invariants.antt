use Rattle.std.proofs.Common.{◌≡◌, ◌+◌, ◌-◌}
use Rattle.hfs_tree.specs.Reads.{Learns}
use Rattle.disk_image.specs.Devices.{bytes_in}
use Rattle.disk_image.specs.Maps.{parts_before, parts_from}
use Rattle.disk_image.proofs.map.read_parts.Given as goal

-- what was read, and the entries from here on, are those of the map; and the disk is as it was
abbrev pub invariant-loop-index : goal.invariant-loop-index
invariant-loop-index g l = record {
  calm : g.D.ForkDisk.failures l.disk ≡ g.D.ForkDisk.failures l.initial.disk;
  reads : g.D.ForkDisk.is_honest l.disk → Learns g.D.ForkDisk l.initial.disk l.disk (λ file.
      parts_from (bytes_in l.view file) l.grid 1 l.count ≡ parts_before l.parts.items (parts_from (bytes_in l.view file) l.grid (l.index + 1) (l.count - l.index)));
}

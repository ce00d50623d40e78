use Rattle.std.proofs.Common.{◌≡◌, drop}
use Rattle.std.specs.Prelude.{find}
use Rattle.hfs_tree.specs.Reads.{Learns}
use Rattle.disk_image.specs.Devices.{bytes_in}
use Rattle.disk_image.specs.Maps.{leads}
use Rattle.disk_image.proofs.map.find_leading.Given as goal

-- the first is the first from here on; and the disk is as it was
abbrev pub invariant-loop-grid : goal.invariant-loop-grid
invariant-loop-grid g l = record {
  calm : g.D.ForkDisk.failures l.disk ≡ g.D.ForkDisk.failures l.initial.disk;
  reads : g.D.ForkDisk.is_honest l.disk → Learns g.D.ForkDisk l.initial.disk l.disk (λ file.
      find (leads (bytes_in l.view file)) (drop l.grid-index l.grids) ≡ find (leads (bytes_in l.view file)) l.grids);
}

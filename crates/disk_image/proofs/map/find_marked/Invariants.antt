use Rattle.std.proofs.Common.{◌≡◌, drop}
use Rattle.std.specs.Prelude.{find}
use Rattle.hfs_tree.specs.Reads.{Learns}
use Rattle.disk_image.specs.Devices.{bytes_in}
use Rattle.disk_image.specs.Maps.{is_marked}
use Rattle.disk_image.proofs.map.find_marked.Given as goal

-- the first is the first from here on; and the disk is as it was
abbrev pub invariant-loop-grid : goal.invariant-loop-grid
invariant-loop-grid g l = record {
  calm : g.D.ForkDisk.failures l.disk ≡ g.D.ForkDisk.failures l.initial.disk;
  reads : g.D.ForkDisk.is_honest l.disk → Learns g.D.ForkDisk l.initial.disk l.disk (λ file.
      find (is_marked (bytes_in l.view file)) (drop l.grid-index l.grids) ≡ find (is_marked (bytes_in l.view file)) l.grids);
}

use Rattle.std.proofs.Common.{◌≡◌, take, map}
use Rattle.std.specs.List.{AllByRecursion}
use Rattle.hfs_tree.specs.Reads.{Learns}
use Rattle.disk_image.specs.Devices.{bytes_in}
use Rattle.disk_image.specs.Images.{volume_of, placed_in, IsPlaced}
use Rattle.disk_image.proofs.place.place_volumes.Given as goal

-- the volumes are those of the partitions so far, and lie within the file; and the disk is as it was
abbrev pub invariant-loop-part : goal.invariant-loop-part
invariant-loop-part g l = record {
  there : AllByRecursion (IsPlaced l.view.file) l.volumes.items;
  calm : g.D.ForkDisk.failures l.disk ≡ g.D.ForkDisk.failures l.initial.disk;
  reads : g.D.ForkDisk.is_honest l.disk → Learns g.D.ForkDisk l.initial.disk l.disk (λ file.
      map (placed_in file) l.volumes.items ≡ map (volume_of (bytes_in l.view file)) (take l.part-index l.parts));
}

use Rattle.std.proofs.Common.{◌≡◌, drop}
use Rattle.std.specs.List.{list_any}
use Rattle.hfs_tree.specs.Reads.{Learns}
use Rattle.disk_image.specs.Devices.{bytes_in}
use Rattle.disk_image.specs.Maps.{has_signature}
use Rattle.disk_image.proofs.map.have_signatures.Given as goal

-- one has where one of those from here on has; and the disk is as it was
abbrev pub invariant-loop-part : goal.invariant-loop-part
invariant-loop-part g l = record {
  calm : g.D.ForkDisk.failures l.disk ≡ g.D.ForkDisk.failures l.initial.disk;
  reads : g.D.ForkDisk.is_honest l.disk → Learns g.D.ForkDisk l.initial.disk l.disk (λ file.
      list_any (has_signature (bytes_in l.view file)) (drop l.part-index l.parts) ≡ list_any (has_signature (bytes_in l.view file)) l.parts);
}

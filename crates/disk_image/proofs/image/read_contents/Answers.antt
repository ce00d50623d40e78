use Rattle.std.proofs.Common.{refl}
use Rattle.disk_image.proofs.image.read_contents.Goals as goal

pub returns-in_ok-volume_or_fault-in-Volume-clause-reads : goal.returns-in_ok-volume_or_fault-in-Volume-clause-reads
returns-in_ok-volume_or_fault-in-Volume-clause-reads g c = λ honest. record {
  keeps = record { honest = honest; same = refl; stable = λ stable. stable };
  known = rw c.in-Volume.is (c.in_ok-volume_or_fault-in-Volume.ensures.contents (g.D.ForkDisk.seen c.args.disk.now));
}

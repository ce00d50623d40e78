use Rattle.std.proofs.Common.{◌∙◌, refl, arith}
use Rattle.disk_image.specs.Devices.{bytes_in}
use Rattle.disk_image.proofs.VolumesFound.{starts_after, found_is}
use Rattle.disk_image.proofs.Views.{view_length}
use Rattle.disk_image.proofs.place.find_volume.Goals as goal

pub returns-then-part-view-clause-reads : goal.returns-then-part-view-clause-reads
returns-then-part-view-clause-reads g c = λ honest.
    let file = g.D.ForkDisk.seen c.args.disk.now in
    let long = view_length c.args.view.now file c.requires.sound (c.requires.size honest) in
    record {
      keeps = record { honest = honest; same = refl; stable = λ stable. stable };
      known = starts_after (bytes_in c.args.view.now file) c.args.part.now (omega (arith, long, c.if-part-view.true));
    }

pub returns-clause-reads : goal.returns-clause-reads
returns-clause-reads g c = λ honest.
    let read = c.in_ok-format.ensures.reads honest in
    let file = g.D.ForkDisk.seen c.args.disk.now in
    let same = c.requires.size read.keeps.honest in
    let long = view_length c.args.view.now file c.requires.sound same in
    record {
      keeps = read.keeps;
      known = c.volume_in.ensures.found file
          ∙ found_is (bytes_in c.args.view.now file) (bytes_in c.in_ok-volume.volume file) c.args.part.now c.in_ok-format.format (omega (arith, long, c.if-part-view.false))
          (c.in_ok-volume.ensures.bytes file same) read.known;
    }

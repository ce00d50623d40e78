use Rattle.std.proofs.Common.{◌∙◌, refl, arith}
use Rattle.disk_image.specs.Devices.{bytes_in}
use Rattle.disk_image.proofs.KnownBy.{no_copy, copy_is}
use Rattle.disk_image.proofs.Views.{view_length}
use Rattle.disk_image.proofs.known.format_of_copy.Goals as goal

pub returns-then-view-lt1536-clause-reads : goal.returns-then-view-lt1536-clause-reads
returns-then-view-lt1536-clause-reads g c = λ honest.
    let file = g.D.ForkDisk.seen c.args.disk.now in
    let long = view_length c.args.view.now file c.requires.sound (c.requires.size honest) in
    record {
      keeps = record { honest = honest; same = refl; stable = λ stable. stable };
      known = no_copy (bytes_in c.args.view.now file) (omega (arith, long, c.if-view-lt1536.true));
    }

pub returns-clause-reads : goal.returns-clause-reads
returns-clause-reads g c = λ honest.
    let read = c.in_ok-format.ensures.reads honest in
    let file = g.D.ForkDisk.seen c.args.disk.now in
    let long = view_length c.args.view.now file c.requires.sound (c.requires.size read.keeps.honest) in
    record {
      keeps = read.keeps;
      known = c.hfs_or_mfs.ensures ∙ copy_is (bytes_in c.args.view.now file) c.args.view.now.size c.in_ok-format.format long c.if-view-lt1536.false read.known;
    }

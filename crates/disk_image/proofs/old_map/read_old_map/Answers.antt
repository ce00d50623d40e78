use Rattle.std.proofs.Common.{◌∙◌, refl, arith}
use Rattle.disk_image.specs.Devices.{bytes_in}
use Rattle.disk_image.proofs.KnownBy.{no_old_map, old_map_is}
use Rattle.disk_image.proofs.Views.{view_length}
use Rattle.disk_image.proofs.old_map.read_old_map.Goals as goal

pub returns-then-view-lt1024-clause-reads : goal.returns-then-view-lt1024-clause-reads
returns-then-view-lt1024-clause-reads g c = λ honest.
    let file = g.D.ForkDisk.seen c.args.disk.now in
    let long = view_length c.args.view.now file c.requires.sound (c.requires.size honest) in
    record {
      keeps = record { honest = honest; same = refl; stable = λ stable. stable };
      known = c.new.ensures.items ∙ no_old_map (bytes_in c.args.view.now file) (omega (arith, long, c.if-view-lt1024.true));
    }

pub returns-clause-reads : goal.returns-clause-reads
returns-clause-reads g c = λ honest.
    let read = c.in_ok-block.ensures.reads honest in
    let file = g.D.ForkDisk.seen c.args.disk.now in
    let long = view_length c.args.view.now file c.requires.sound (c.requires.size read.keeps.honest) in
    record {
      keeps = read.keeps;
      known = old_map_is (bytes_in c.args.view.now file) c.in_ok-block.block _ (omega (arith, long, c.if-view-lt1024.false)) read.known c.in_ok-parts_in.ensures;
    }

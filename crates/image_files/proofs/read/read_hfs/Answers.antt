use Rattle.std.proofs.Common.{sym, ◌∙◌}
use Rattle.disk_ranges.specs.Ranges.{bytes_of}
use Rattle.disk_ranges.proofs.Whole.{length_is}
use Rattle.image_files.proofs.read.read_hfs.Goals as goal

pub returns-clause-reads : goal.returns-clause-reads
returns-clause-reads g c = rw c.into_disk.ensures (λ honest.
    let part = rw c.new-part.ensures at (c.read_volume-read.ensures.reads honest) in
    let file = g.D.ForkDisk.seen c.args.disk in
    record {
      keeps = record { honest = part.keeps.honest; same = g.met.D.StillDisk.still _ _; stable = part.keeps.stable };
      known = c.hfs_files-files.ensures.files (bytes_of c.args.ranges.items file)
          (c.requires.size ∙ sym (length_is c.args.ranges.items file (c.requires.inside part.keeps.honest))) part.known;
    })

use Rattle.disk_image.proofs.DevicesFound.{copy_is, raw_is}
use Rattle.disk_image.proofs.device.find_device.Goals as goal

pub returns-in_ok-data_view-in-DiskCopy-clause-reads : goal.returns-in_ok-data_view-in-DiskCopy-clause-reads
returns-in_ok-data_view-in-DiskCopy-clause-reads g c = λ honest.
    let read = c.in_ok-data-in-DiskCopy.ensures.reads honest in
    record {
      keeps = read.keeps;
      known = copy_is c.args.view.now (g.D.ForkDisk.seen c.args.disk.now) c.args.known c.requires.whole (c.requires.size read.keeps.honest)
          c.in_ok-data-in-DiskCopy.data _ c.in-DiskCopy.is read.known c.in_ok-data_view-in-DiskCopy.ensures.ranges;
    }

pub returns-in-RawCd-clause-reads : goal.returns-in-RawCd-clause-reads
returns-in-RawCd-clause-reads g c = λ honest.
    let read = c.sector_device.ensures.reads honest in
    record {
      keeps = read.keeps;
      known = rw (raw_is c.args.view.now (g.D.ForkDisk.seen c.args.disk.now) c.args.known c.requires.whole (c.requires.size read.keeps.honest) c.in-RawCd.is) read.known;
    }

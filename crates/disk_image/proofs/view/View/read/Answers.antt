use Rattle.std.proofs.Common.{arith}
use Rattle.disk_image.proofs.Views.{view_length}
use Rattle.disk_image.proofs.view.View.read.Goals as goal

pub read_ranges-requires-clause-there : goal.read_ranges-requires-clause-there
read_ranges-requires-clause-there g c = λ honest.
    let long = view_length c.args.self.now (g.D.ForkDisk.seen c.args.disk.now) c.requires.sound (c.requires.size honest) in
    rw c.deref.ensures.value (omega (arith, long, c.requires.inside))

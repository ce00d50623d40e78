use Rattle.std.proofs.Common.{length}
use Rattle.disk_image.proofs.open.open_fork_within.Goals as goal

pub new-requires-clause-inside : goal.new-requires-clause-inside
new-requires-clause-inside g c = λ honest. c.in_ok-ranges.ensures.inside (length (g.D.ForkDisk.seen c.args.disk)) (c.requires.inside honest)

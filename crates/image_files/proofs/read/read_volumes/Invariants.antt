use Rattle.std.proofs.Common.{length}
use Rattle.image_files.proofs.Reading.{Reading}
use Rattle.image_files.proofs.read.read_volumes.Given as goal

abbrev pub invariant-loop-alloc : goal.invariant-loop-alloc
invariant-loop-alloc g l = Reading g.D.ForkDisk l.fn.disk l.fn.placed.items l.disk l.volumes.items l.placed.items

abbrev pub decreases-loop-alloc : goal.decreases-loop-alloc
decreases-loop-alloc g l = length l.placed.items

use Rattle.std.proofs.Common.{rules, List, subst}
use Rattle.std.specs.List.{remove}
use Rattle.disk_image.specs.declared.place.Placed.{Placed}
use Rattle.image_files.proofs.Reading.{Reading, goes_on, on_ok, taken}
use Rattle.image_files.proofs.read.read_volumes.Goals as goal

pub loop-alloc-preserved : goal.loop-alloc-preserved
loop-alloc-preserved g c =
    let read = Reading g.D.ForkDisk c.args.disk c.args.placed.items in
    let items = c.loop-alloc.placed.items in
    let first = c.remove.result in
    let is = taken items first (search rules) c.remove.ensures.value in
    let before = subst (λ (left : List Placed). read c.loop-alloc.disk c.loop-alloc.volumes.items left) is c.loop-alloc.invariant in
    let after = goes_on g.D.ForkDisk c.args.disk c.args.placed.items c.loop-alloc.disk c.read_placed-next.result.0 c.loop-alloc.volumes.items first (remove items 0) c.in-Ok.volume before
    (rw c.in-Ok.is at c.read_placed-next.ensures.reads) (rw c.in-Ok.is at c.read_placed-next.ensures.there) in
    let pushed = on_ok c.push_volume.result c.is_err.result _ c.is_err.ensures.value c.if-is_err.false c.push_volume.ensures in
    rw (pushed, c.remove.ensures.items) after

pub returns-clause-there : goal.returns-clause-there
returns-clause-there g c = λ size placed. (c.loop-alloc.invariant.placed size placed).0

use Rattle.std.proofs.Common.{◌≡◌, ◌≤◌, ◌*◌, Some, sym, ◌∙◌, refl, arith}
use Rattle.hfs_volume.specs.Volume.{blocks_for}
use Rattle.mfs_volume.specs.Directory.{size_of}
use Rattle.mfs_volume.specs.Info.{layout_of}
use Rattle.mfs_volume.specs.Volume.{read_of, extents_of}
use Rattle.mfs_volume.proofs.Found.{all_there}
use Rattle.mfs_volume.proofs.ranges.ranges_of_file.Goals as goal

pub returns-then-are_there : goal.returns-then-are_there
returns-then-are_there c =
    let volume = read_of c.args.volume.now in
    let file = c.args.file.now in
    let which = c.args.which in
    let are : Some c.in-Some.extents.items ≡ extents_of volume file which =
    rw (c.in-Some.is, c.deref.ensures.value, c.blocks_for-needed.ensures.value, c.layout-layout.ensures, c.fork_size-size.ensures, c.first_block-first.ensures) at c.in_ok-extents.ensures in
    let bytes : c.fork_size-size.result ≤ c.blocks_for-needed.result * c.layout-layout.result.size = omega (arith, c.if-saturating_mul-size.false, c.saturating_mul.ensures) in
    let enough : size_of file which ≤ blocks_for (layout_of volume.info) (size_of file which) * (layout_of volume.info).size =
    rw (c.blocks_for-needed.ensures.value, c.layout-layout.ensures, c.fork_size-size.ensures) at bytes in
    let there = sym c.are_there.ensures ∙ c.if-are_there.true in
    rw (c.in_ok-ranges.ensures, c.deref-2.ensures.value, c.layout-layout.ensures, c.fork_size-size.ensures)
    (all_there volume file which c.in-Some.extents.items are enough
    (rw (c.deref-3.ensures.value, c.in_ok-ranges.ensures, c.deref-2.ensures.value, c.layout-layout.ensures, c.fork_size-size.ensures) at there)
    (omega arith) (omega (arith, c.fork_size-size.ensures)))

use Rattle.std.proofs.Common.{◌≡◌, ◌≤◌, ◌*◌, List, refl, ap, sym, ◌∙◌, arith}
use Rattle.hfs_tree.specs.declared.extent.Extent.{Extent}
use Rattle.hfs_volume.specs.Entries.{size_of}
use Rattle.hfs_volume.specs.Overflow.{block_count}
use Rattle.hfs_volume.specs.Volume.{layout_of}
use Rattle.hfs_volume.specs.Opening.{read_of}
use Rattle.hfs_volume.specs.Forks.{extents_of}
use Rattle.hfs_volume.proofs.Found.{all_there}
use Rattle.hfs_volume.proofs.ranges.ranges_of_fork.Goals as goal

pub returns : goal.returns
returns c =
    let volume = read_of c.args.volume.now in
    let file = c.args.file.now in
    let which = c.args.which in
    let are : c.in_ok-extents.extents.items ≡ extents_of volume file which =
    rw (c.in_ok-extents.ensures.extents, c.deref.ensures.value, c.id.ensures, c.key.ensures, c.in_ok-first.ensures, c.blocks_for-needed.ensures.value, c.layout-layout.ensures, c.fork_size-size.ensures) refl in
    let blocks : c.count_blocks.result ≡ block_count (extents_of volume file which) = c.count_blocks.ensures ∙ ap (λ (xs : List Extent). block_count xs) (c.deref-2.ensures.value ∙ are) in
    let bytes : c.fork_size-size.result ≤ c.count_blocks.result * c.layout-layout.result.size = omega (arith, c.if-saturating_mul-size.false, c.saturating_mul.ensures) in
    let enough : size_of file which ≤ block_count (extents_of volume file which) * (layout_of volume.mdb).size = rw (blocks, c.layout-layout.ensures, c.fork_size-size.ensures) at bytes in
    let sound = sym c.are_in_volume.ensures ∙ c.if-not-are_in_volume.false in
    let there = sym c.are_there.ensures ∙ c.if-not-are_there.false in
    rw (c.in_ok-ranges.ensures, c.deref-5.ensures.value, are, c.layout-layout.ensures, c.fork_size-size.ensures)
    (all_there volume file which enough
    (rw (c.deref-4.ensures.value, c.in_ok-cut.ensures, c.deref-3.ensures.value, are, c.blocks_for-needed.ensures.value, c.layout-layout.ensures, c.fork_size-size.ensures) at sound)
    (rw (c.deref-6.ensures.value, c.in_ok-ranges.ensures, c.deref-5.ensures.value, are, c.layout-layout.ensures, c.fork_size-size.ensures) at there)
    (omega arith) (omega (arith, c.fork_size-size.ensures)))

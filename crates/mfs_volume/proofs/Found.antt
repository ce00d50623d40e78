-- What a fork is, by what was found of it in turn.
use Rattle.std.proofs.Common.{◌≡◌, ◌+◌, ◌*◌, ◌^◌, ◌<◌, ◌≤◌, true, List, [], Some, refl, sym, ap, subst, arith}
use Rattle.std.proofs.lemmas.Bool.{le-ltb}
use Rattle.std.specs.List.{list_all}
use Rattle.std.specs.Prelude.{IfSome, Option}
use Rattle.hfs_tree.specs.declared.extent.Extent.{Extent}
use Rattle.hfs_volume.specs.declared.entry.Which.{Which}
use Rattle.hfs_volume.specs.Forks.{ranges_in, is_there}
use Rattle.hfs_volume.specs.Overflow.{block_count}
use Rattle.hfs_volume.specs.Volume.{blocks_for}
use Rattle.hfs_volume.proofs.ForkRanges.{total_is, bytes_are, are_within}
use Rattle.mfs_volume.specs.declared.directory.MfsFile.{MfsFile}
use Rattle.mfs_volume.specs.Directory.{first_block, size_of}
use Rattle.mfs_volume.specs.Info.{layout_of}
use Rattle.mfs_volume.specs.Volume.{VolumeRead, extents_of, HasFork}
use Rattle.mfs_volume.proofs.Chained.{count_is}

module _ (volume : VolumeRead) (file : MfsFile) (which : Which) (extents : List Extent) where
  -- where its blocks have enough bytes, and these are there, it is found
  pub all_there : Some extents ≡ extents_of volume file which
      → size_of file which ≤ blocks_for (layout_of volume.info) (size_of file which) * (layout_of volume.info).size
      → list_all (is_there volume.size) (ranges_in (layout_of volume.info) (size_of file which) extents) ≡ true
      → volume.size < 2 ^ 64 → size_of file which < 2 ^ 64
      → HasFork volume file which (ranges_in (layout_of volume.info) (size_of file which) extents)
  all_there are enough there low small =
      let layout = layout_of volume.info in
      let size = size_of file which in
      let none : block_count [] ≡ 0 = refl in
      let counted : block_count extents ≡ block_count [] + blocks_for layout size =
      subst (λ (found : Option (List Extent)). IfSome found (λ xs. block_count xs ≡ block_count [] + blocks_for layout size)) (sym are) (count_is volume.map (blocks_for layout size) [] (first_block file which)) in
      let count : block_count extents ≡ blocks_for layout size = omega (arith, counted, none) in
      let covers : size ≤ block_count extents * layout.size = rw count enough in
      let whole = total_is layout extents size covers in
      record {
        sound = rw (← are, le-ltb (blocks_for layout size * layout.size) size enough, there) refl;
        within = are_within volume.size (ranges_in layout size extents) low (omega (arith, whole, small)) there;
        whole = whole;
        same = λ bytes long. rw (← are) (bytes_are layout bytes extents size (rw long there));
      }

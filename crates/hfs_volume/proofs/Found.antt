-- What a fork is, by what was found of it in turn.
use Rattle.std.proofs.Common.{◌≡◌, ◌*◌, ◌^◌, ◌<◌, ◌≤◌, true, refl, arith}
use Rattle.std.proofs.lemmas.Bool.{le-ltb}
use Rattle.std.specs.List.{list_all}
use Rattle.hfs_volume.specs.declared.entry.Entry.{Entry}
use Rattle.hfs_volume.specs.declared.entry.Which.{Which}
use Rattle.hfs_volume.specs.Entries.{size_of}
use Rattle.hfs_volume.specs.Overflow.{block_count}
use Rattle.hfs_volume.specs.Volume.{VolumeRead, layout_of, blocks_for}
use Rattle.hfs_volume.specs.Forks.{extents_of, cut_to, is_in_volume, ranges_in, is_there, HasFork}
use Rattle.hfs_volume.proofs.ForkRanges.{total_is, bytes_are, are_within}

module _ (volume : VolumeRead) (file : Entry) (which : Which) where
  -- where its extents have enough bytes, their blocks are the volume's and the bytes are there, it is found
  pub all_there : size_of file which ≤ block_count (extents_of volume file which) * (layout_of volume.mdb).size
      → list_all (is_in_volume (layout_of volume.mdb)) (cut_to (blocks_for (layout_of volume.mdb) (size_of file which)) (extents_of volume file which)) ≡ true
      → list_all (is_there volume.size) (ranges_in (layout_of volume.mdb) (size_of file which) (extents_of volume file which)) ≡ true
      → volume.size < 2 ^ 64 → size_of file which < 2 ^ 64
      → HasFork volume file which (ranges_in (layout_of volume.mdb) (size_of file which) (extents_of volume file which))
  all_there enough good there low small =
      let whole = total_is (layout_of volume.mdb) (extents_of volume file which) (size_of file which) enough in
      record {
        sound = rw (le-ltb (block_count (extents_of volume file which) * (layout_of volume.mdb).size) (size_of file which) enough, good, there) refl;
        within = are_within volume.size (ranges_in (layout_of volume.mdb) (size_of file which) (extents_of volume file which)) low (omega (arith, whole, small)) there;
        whole = whole;
        same = λ bytes long. bytes_are (layout_of volume.mdb) bytes (extents_of volume file which) (size_of file which) (rw long there);
      }
